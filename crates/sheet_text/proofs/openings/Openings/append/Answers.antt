use Rattle.std.proofs.Common.{ap, ◌∙◌, ◌++◌}
use Rattle.rules.specs.Output.{border_within, opening_text}
use Rattle.pagespec.specs.Items.{item_of}
use Rattle.sheet_text.specs.Jobs.{JobView}
use Rattle.sheet_text.proofs.openings.Openings.append.Goals as goal

pub keep-requires : goal.keep-requires
keep-requires c =
    c.in_ok-opening_within.ensures.appended
    ∙ ap (λ t. t ++ opening_text (record { paper = c.args.paper.now; border = border_within c.job.inside.inset c.job.inside.border }) (item_of c.args.item.now)) c.new-text.ensures.items
    ∙ ap (λ (j : JobView). opening_text (record { paper = c.args.paper.now; border = j.border }) (item_of c.args.item.now)) c.job.view_is

pub returns : goal.returns
returns c =
    c.in_ok-append.ensures.appended
    ∙ ap (λ t. c.append_kept.new.out ++ t) (c.as_slice.ensures.value ∙ c.in_ok-opening_within.ensures.appended)
    ∙ ap (λ t. c.append_kept.new.out ++ (t ++ opening_text (record { paper = c.args.paper.now; border = border_within c.job.inside.inset c.job.inside.border }) (item_of c.args.item.now))) c.new-text.ensures.items
    ∙ ap (λ t. t ++ opening_text (record { paper = c.args.paper.now; border = border_within c.job.inside.inset c.job.inside.border }) (item_of c.args.item.now)) (c.in_ok-append_kept.ensures.missing c.if-branch.false)
    ∙ ap (λ (j : JobView). c.args.out.now ++ opening_text (record { paper = c.args.paper.now; border = j.border }) (item_of c.args.item.now)) c.job.view_is
