use Rattle.std.proofs.Common.{◌≡◌, take}
use Rattle.std.specs.Prelude.{fold}
use Rattle.papers.specs.AsOne.{larger_of}
use Rattle.papers.proofs.kinds.largest.Given as goal

abbrev pub invariant-loop-paper : goal.invariant-loop-paper
invariant-loop-paper l = l.largest ≡ fold larger_of l.initial.largest (take l.paper-index l.rest)
