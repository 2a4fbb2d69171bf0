-- What every seat keeps to, and its own entries.
use Rattle.std.specs.Prelude.{ℕ, suc, ◌≡◌, ◌<◌, ◌≤◌, List, [], ◌∷◌, length, take, drop, flat_map, Some, slice_get}
use Rattle.rules.specs.Seats.{Sight, occurrences, whole_share}

module _ {E : Type 0} where
  -- the entry at a place, as a list of one
  abbrev pub entry_at : List E → ℕ → List E
  entry_at log x = take 1 (drop x log)

  -- the entries at these places
  abbrev pub entries_at : List E → List ℕ → List E
  entries_at log places = flat_map (entry_at log) places

  -- these entries are in the history at these places, in this order, and none before place n
  abbrev pub StandAt : List E → (n : ℕ) → List ℕ → List E → Type 0
  StandAt log n [] [] = Unit {0}
  StandAt log n [] (e ∷ es) = ⊥
  StandAt log n (x ∷ xs) [] = ⊥
  StandAt log n (x ∷ xs) (e ∷ es) = (n ≤ x) × (slice_get log x ≡ Some e) × StandAt log (suc x) xs es

  -- the front is legal, and the own places are places of it, each once; with all shares they are all places of it
  pub record IsHeld (Legal : List E → Type 0) (front : List E) (own : List ℕ) (share : ℕ) : Type 0 where
    pub legal : Legal front
    pub inside : (x : ℕ) → 0 < occurrences x own → x < length front
    pub once : (x : ℕ) → occurrences x own ≤ 1
    pub some_share : 0 < share
    pub most_share : share ≤ whole_share
    pub every : share ≡ whole_share → (x : ℕ) → x < length front → 0 < occurrences x own

-- a seat between two calls: it has this share, and keeps to what every seat keeps to
pub record StandsAlone {K E : Type 0} (Legal : K → List E → Type 0) (v : Sight K E) (its_share : ℕ) : Type 0 where
  pub share : its_share ≡ v.share
  pub held : IsHeld (Legal v.key) v.front v.own v.share
