use Rattle.std.proofs.Common.{◌≡◌, take}
use Rattle.std.specs.List.{fold}
use Rattle.sheet_plan.specs.OfSheets.{slots_at}
use Rattle.preview.specs.Ways.{with_slot}
use Rattle.preview.proofs.ways.note_slots.Given as goal

abbrev pub invariant-loop-slot : goal.invariant-loop-slot
invariant-loop-slot l = l.ways.items ≡ fold (with_slot l.paper) l.initial.ways.items (take l.slot (slots_at l.sheets l.sheet))
