-- How what is gathered grows. `gathered` is a run's `has_gathered`: what it began with, the number of preparers in
-- all, the number of those that are joined, and what is held.
use Rattle.std.specs.Prelude.{ℕ, ◌+◌, Option, IfSome}

-- what was gathered before any preparer was joined remains gathered
abbrev pub StaysGathered : {H : Type 0} → (H → ℕ → ℕ → H → Type 0) → (old new : H) → Type 0
StaysGathered gathered old new = (first : _) (count : ℕ) → gathered first count 0 old → gathered first count 0 new

-- joining the next preparer raises the number of joined preparers by one
abbrev pub GainsPreparer : {H : Type 0} → (H → ℕ → ℕ → H → Type 0) → (ℕ → ℕ → H → Type 0)
    → (all theirs new : H) → Type 0
GainsPreparer gathered prepared all theirs new =
    (first : _) (count k : ℕ) → gathered first count k all → prepared count k theirs → gathered first count (k + 1) new

-- joining an imposer leaves that number as it is
abbrev pub GainsImposer : {H : Type 0} → (H → ℕ → ℕ → H → Type 0) → (H → Type 0) → (all theirs new : H) → Type 0
GainsImposer gathered imposed all theirs new =
    (first : _) (count k : ℕ) → gathered first count k all → imposed theirs → gathered first count k new

-- if it began before any preparer was joined, all of them are joined at the end
abbrev pub GathersAllJoined : {H : Type 0} → (H → ℕ → ℕ → H → Type 0) → (count : ℕ) → H → Option H → Type 0
GathersAllJoined gathered count old ended = (first : _) → gathered first count 0 old
    → IfSome ended (gathered first count count)
