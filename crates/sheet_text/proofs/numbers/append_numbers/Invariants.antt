use Rattle.std.proofs.Common.{◌≡◌, ◌++◌, take}
use Rattle.std.specs.Prelude.{flat_map}
use Rattle.rules.specs.Dress.{lines_text}
use Rattle.sheet_plan.specs.OfSheets.{slots_at}
use Rattle.sheet_text.specs.PageNumbers.{slot_lines}
use Rattle.sheet_text.proofs.numbers.append_numbers.Given as goal

abbrev pub invariant-loop-slot : goal.invariant-loop-slot
invariant-loop-slot l = l.text ≡ l.initial.text ++ lines_text (flat_map (slot_lines l.numbers) (take l.slot (slots_at l.numbers.places l.sheet)))
