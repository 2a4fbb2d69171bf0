use Rattle.std.proofs.Common.{List, ◌-◌, ◌≡◌, ℕ, ◌*◌, ◌<◌, ◌≤◌, false}
use Rattle.imposer.specs.SheetNumbers.{has_number}
use Rattle.imposer.proofs.bits.next_filled.Given as goal

pub record Passed (words : List ℕ) (from word : ℕ) : Type 0 where
  pub forward : from ≤ word
  pub blank : (k : ℕ) → 64 * from ≤ k → k < 64 * word → has_number words k ≡ false

abbrev pub invariant-loop-word : goal.invariant-loop-word
invariant-loop-word l = Passed l.words l.from l.word

abbrev pub decreases-loop-word : goal.decreases-loop-word
decreases-loop-word l = l.stop - l.word
