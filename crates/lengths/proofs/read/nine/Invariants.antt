use Rattle.std.proofs.Common.{◌≡◌, ◌++◌, ◌<◌, ◌^◌, take}
use Rattle.std.specs.Prelude.{replicate}
use Rattle.rules.specs.Numbers.{number_of}
use Rattle.lengths.proofs.read.nine.Given as goal

abbrev pub invariant-loop-i : goal.invariant-loop-i
invariant-loop-i l = record { value : l.n ≡ number_of (take l.i (l.decimals ++ replicate 9 48)); below : l.n < 10 ^ l.i }
