use Rattle.std.proofs.Common.{◌≡◌, length}
use Rattle.papers.specs.Media.{after_key}
use Rattle.papers.proofs.setup.after_key.Given as goal

abbrev pub invariant-loop-others : goal.invariant-loop-others
invariant-loop-others l = after_key l.rest ≡ after_key l.content

abbrev pub decreases-loop-others : goal.decreases-loop-others
decreases-loop-others l = length l.rest
