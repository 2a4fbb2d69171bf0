use Rattle.std.proofs.Common.{◌≡◌, length}
use Rattle.papers.specs.Media.{contents}
use Rattle.impose_cli.specs.Claims.{is_drawn_again}
use Rattle.impose_cli.proofs.claims.is_drawn_again.Given as goal

abbrev pub invariant-loop-rest : goal.invariant-loop-rest
invariant-loop-rest l = is_drawn_again (contents l.rest) ≡ is_drawn_again (contents l.header)

abbrev pub decreases-loop-rest : goal.decreases-loop-rest
decreases-loop-rest l = length l.rest
