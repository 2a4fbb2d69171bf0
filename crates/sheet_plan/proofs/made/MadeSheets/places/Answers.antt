use Rattle.std.proofs.Common.{ap, ◌∙◌}
use Rattle.sheet_plan.specs.Store.{slots_end}
use Rattle.sheet_plan.proofs.Stored.{total_read}
use Rattle.sheet_plan.proofs.made.MadeSheets.places.Goals as goal

pub returns : goal.returns
returns c = c.last_end.ensures ∙ ap (slots_end 0) c.as_slice-sheets.ensures.value ∙ total_read c.self.inside.placings.items c.self.inside.slots.items c.self.inside.sheets.items c.args.self.now c.self.invariant.0 c.self.view_is
