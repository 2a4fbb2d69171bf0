use Rattle.std.proofs.Common.{◌≡◌, ◌-◌, ◌++◌}
use Rattle.papers.specs.AsOne.{kinds}
use Rattle.papers.proofs.kinds.kinds_of.Given as goal

abbrev pub invariant-loop : goal.invariant-loop
invariant-loop l = l.kinds.items ++ kinds (l.room - l.counter) l.rest.items ≡ kinds l.room l.papers
