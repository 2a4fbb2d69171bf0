use Rattle.std.proofs.Common.{◌≡◌, length, false}
use Rattle.paper_names.specs.Home.{from_word}
use Rattle.paper_names.proofs.home.from_word.Given as goal

abbrev pub invariant-loop-first : goal.invariant-loop-first
invariant-loop-first l = from_word l.comment l.rest ≡ from_word false l.text

abbrev pub decreases-loop-first : goal.decreases-loop-first
decreases-loop-first l = length l.rest
