use Rattle.std.proofs.Common.{◌≡◌, length}
use Rattle.paper_names.specs.Sizes.{last_part}
use Rattle.paper_names.proofs.size.last_part.Given as goal

abbrev pub invariant-loop-first : goal.invariant-loop-first
invariant-loop-first l = last_part l.part l.rest ≡ last_part l.text l.text

abbrev pub decreases-loop-first : goal.decreases-loop-first
decreases-loop-first l = length l.rest
