use Rattle.std.proofs.Common.{length, sym, ap, ◌∙◌}
use Rattle.sheet_plan.proofs.Stored.{sheets_len}
use Rattle.sheet_plan.proofs.made.MadeSheets.len.Goals as goal

pub returns : goal.returns
returns c = ap length c.as_slice-sheets.ensures.value ∙ sym (sheets_len c.self.inside.placings.items c.self.inside.slots.items 0 c.self.inside.sheets.items) ∙ ap length c.self.view_is
