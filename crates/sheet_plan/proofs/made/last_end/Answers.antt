use Rattle.std.proofs.Common.{refl, sym}
use Rattle.sheet_plan.proofs.Stored.{end_last}
use Rattle.sheet_plan.proofs.made.last_end.Goals as goal

pub returns-in-Some : goal.returns-in-Some
returns-in-Some c = end_last 0 _ c.args.sheets.now _ refl (sym c.in-Some.ensures.value)
