use Rattle.std.proofs.Common.{◌≡◌, ◌++◌, List, take}
use Rattle.std.specs.Prelude.{ℤ}
use Rattle.sheet_plan.specs.OfSheets.{slots_at}
use Rattle.impose_messages.specs.Scales.{extremes, scales_in}
use Rattle.impose_messages.proofs.scales.with_sheet.Given as goal

abbrev pub invariant-loop-slot : goal.invariant-loop-slot
invariant-loop-slot l = (seen : List ℤ) → l.fn.so_far ≡ extremes seen → l.scales ≡ extremes (seen ++ scales_in (take l.slot (slots_at l.sheets l.sheet)))
