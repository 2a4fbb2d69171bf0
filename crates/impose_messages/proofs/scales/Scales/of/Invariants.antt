use Rattle.std.proofs.Common.{◌≡◌, take}
use Rattle.std.specs.Prelude.{flat_map}
use Rattle.impose_messages.specs.Scales.{extremes, scales_in}
use Rattle.impose_messages.proofs.scales.Scales.of.Given as goal

abbrev pub invariant-loop-sheet : goal.invariant-loop-sheet
invariant-loop-sheet l = l.scales ≡ extremes (flat_map (λ sheet. scales_in sheet.slots) (take l.sheet l.sheets))
