use Rattle.std.proofs.Common.{◌≡◌, length}
use Rattle.papers.specs.Media.{contents, set_size}
use Rattle.papers.proofs.setup.set_size.Given as goal

abbrev pub invariant-loop-rest : goal.invariant-loop-rest
invariant-loop-rest l = set_size (contents l.rest) ≡ set_size (contents l.text)

abbrev pub decreases-loop-rest : goal.decreases-loop-rest
decreases-loop-rest l = length l.rest
