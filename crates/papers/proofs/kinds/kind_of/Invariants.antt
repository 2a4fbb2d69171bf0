use Rattle.std.proofs.Common.{◌≡◌, take}
use Rattle.std.specs.Prelude.{fold}
use Rattle.papers.specs.AsOne.{with_near}
use Rattle.papers.proofs.kinds.kind_of.Given as goal

abbrev pub invariant-loop-other : goal.invariant-loop-other
invariant-loop-other l = l.paper ≡ fold (with_near l.first) l.first (take l.other-index l.papers)
