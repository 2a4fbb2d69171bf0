use Rattle.std.proofs.Common.{◌∙◌, ◌++◌, ap, sym, map}
use Rattle.pagespec.specs.Items.{item_of, group_text, groups_of, groups_text}
use Rattle.pagespec.proofs.Joining.{joined_text, on_ok}
use Rattle.pagespec.proofs.write.append_groups.Goals as goal

pub returns-in_ok-append_group-in-Some : goal.returns-in_ok-append_group-in-Some
returns-in_ok-append_group-in-Some c =
    on_ok c.append_more_groups.result
    (λ more. joined_text 44 group_text (map item_of c.in-Some.first.now.items) (groups_of c.in-Some.rest.now) c.args.out.now.items _ _
    (c.in_ok-append_group-in-Some.ensures ∙ ap (λ g. c.args.out.now.items ++ group_text (map item_of g)) c.deref.ensures.value) more
    ∙ ap (λ gs. c.args.out.now.items ++ groups_text (groups_of gs)) (sym c.in-Some.ensures.cases.0))
    c.append_more_groups.ensures
