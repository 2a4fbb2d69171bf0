-- A set of numbers, and its bits.
use Rattle.std.specs.Prelude.{◌≡◌, ℕ, zero, suc, ◌*◌, ◌/◌, ◌%◌, ◌<◌, ◌≤◌, Bool, true, false, cond, ◌==◌, List, length, get_or}
use Rattle.std.specs.Int.{bit_at}
use Rattle.std.specs.Ordering.{nat_cmp}
use Rattle.std.specs.FinSet.{FinSet, empty, insert, contains, len}

-- the smallest number of the set
pub record IsSmallest (s : FinSet nat_cmp) (n : ℕ) : Type 0 where
  pub member : contains s n ≡ true
  pub least : (k : ℕ) → contains s k ≡ true → n ≤ k

-- no number of the set is below this one
abbrev pub HasNoneBelow : FinSet nat_cmp → ℕ → Type 0
HasNoneBelow s n = (k : ℕ) → contains s k ≡ true → n ≤ k

-- the bit of the number 64 k + b is bit b of word k; after the last word no bit is set
abbrev pub has_number : List ℕ → ℕ → Bool
has_number words n = bit_at (get_or words (n / 64) 0) (n % 64) == 1

-- the numbers below n that pass
abbrev pub passing : (ℕ → Bool) → ℕ → FinSet nat_cmp
passing p zero = empty
passing p (suc n) = cond (p n) (insert (passing p n) n) (passing p n)

-- the numbers whose bits are set
abbrev pub numbers : List ℕ → FinSet nat_cmp
numbers words = passing (has_number words) (64 * length words)

-- words with bits for at most 2^32 numbers; none is set before this word, and this many are set in all
pub record AreCounted (words : List ℕ) (first amount : ℕ) : Type 0 where
  pub few : length words ≤ 67108864
  pub blank : (k : ℕ) → k < 64 * first → has_number words k ≡ false
  pub counted : amount ≡ len (numbers words)
