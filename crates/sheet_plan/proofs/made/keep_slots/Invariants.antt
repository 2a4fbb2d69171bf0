use Rattle.std.proofs.Common.{◌≡◌, length, map, take}
use Rattle.std.specs.Prelude.{All}
use Rattle.sheet_plan.specs.OfSheets.{slot_of}
use Rattle.sheet_plan.specs.Store.{IsGrown, added_to, is_named}
use Rattle.sheet_plan.proofs.made.keep_slots.Given as goal

abbrev pub invariant-loop-slot : goal.invariant-loop-slot
invariant-loop-slot l =
    IsGrown l.initial.placings.items l.placings.items l.initial.slots.items l.slots.items
    × All (is_named (length l.placings.items)) l.slots.items
    × (added_to l.placings.items l.initial.slots.items l.slots.items ≡ map slot_of (take l.slot-index l.made))
