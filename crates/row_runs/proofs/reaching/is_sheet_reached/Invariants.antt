use Rattle.std.proofs.Common.{◌≡◌, take, true}
use Rattle.std.specs.List.{list_all}
use Rattle.row_runs.specs.Turning.{turn_on}
use Rattle.sheet_plan.specs.OfSheets.{slots_at}
use Rattle.row_runs.specs.Reaching.{is_slot_reached}
use Rattle.row_runs.proofs.reaching.is_sheet_reached.Given as goal

abbrev pub invariant-loop-slot : goal.invariant-loop-slot
invariant-loop-slot l = list_all (is_slot_reached (turn_on l.turns) l.swap) (take l.slot (slots_at l.sheets l.sheet)) ≡ true
