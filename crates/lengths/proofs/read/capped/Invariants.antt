use Rattle.std.proofs.Common.{◌≡◌, take, min}
use Rattle.rules.specs.Numbers.{number_of}
use Rattle.lengths.specs.Reading.{least_large}
use Rattle.lengths.proofs.read.capped.Given as goal

abbrev pub invariant-loop-d : goal.invariant-loop-d
invariant-loop-d l = l.n ≡ min least_large (number_of (take l.d-index l.digits))
