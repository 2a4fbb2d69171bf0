use Rattle.std.proofs.Common.{◌≡◌, length}
use Rattle.paper_names.specs.Names.{letters}
use Rattle.paper_names.proofs.names.next_letter.Given as goal

abbrev pub invariant-loop-first : goal.invariant-loop-first
invariant-loop-first l = letters l.rest ≡ letters l.text

abbrev pub decreases-loop-first : goal.decreases-loop-first
decreases-loop-first l = length l.rest
