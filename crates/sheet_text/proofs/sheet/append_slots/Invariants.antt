use Rattle.std.proofs.Common.{◌≡◌, ◌++◌, take}
use Rattle.sheet_text.specs.Jobs.{slots_of, slots_text}
use Rattle.sheet_text.proofs.sheet.append_slots.Given as goal

abbrev pub invariant-loop-slot : goal.invariant-loop-slot
invariant-loop-slot l = l.text ≡ l.fn.text ++ slots_text l.job (take l.slot (slots_of l.job l.sheet))
