use Rattle.std.proofs.Common.{◌≡◌, map, take}
use Rattle.sheet_plan.specs.OfSheets.{slot_of, slots_at}
use Rattle.row_runs.specs.SwappedMargins.{moved_slot}
use Rattle.row_runs.specs.Turning.{turn_on, turned_slot}
use Rattle.row_runs.proofs.turning.turn_slots.Given as goal

abbrev pub invariant-loop-slot : goal.invariant-loop-slot
invariant-loop-slot l = map slot_of l.slots.items ≡ map (λ slot. turned_slot (turn_on l.turns) (moved_slot l.swap slot)) (take l.slot (slots_at l.sheets l.sheet))
