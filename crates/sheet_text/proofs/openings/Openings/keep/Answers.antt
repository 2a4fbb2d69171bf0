use Rattle.std.proofs.Common.{ap, ◌∙◌, sym}
use Rattle.rules.specs.Output.{opening_text}
use Rattle.pagespec.specs.Items.{item_of}
use Rattle.sheet_text.specs.Jobs.{JobView}
use Rattle.sheet_text.proofs.openings.Openings.keep.Goals as goal

pub invariant_of-opening : goal.invariant_of-opening
invariant_of-opening c = record {
  opens = c.requires ∙ ap (λ (j : JobView). opening_text (record { paper = c.args.paper.now; border = j.border }) (item_of c.args.item.now)) (sym c.job.view_is);
}
