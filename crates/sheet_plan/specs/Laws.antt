-- The places of a page and the sheets without pages, described by relations.
use Rattle.std.specs.Prelude.{⊤, ◌≡◌, ◌↔◌, ◌⊎◌, ℕ, ◌<◌, List, [], ◌∷◌, length, Some, slice_get, slice_index_or}
use Rattle.std.specs.List.{AllByRecursion}
use Rattle.rules.specs.Sheets.{Layout}
use Rattle.sheet_plan.specs.Places.{places_of, born_complete}

-- an element is one of a list
abbrev pub IsAmong : {X : Type 0} → X → List X → Type 0
IsAmong x [] = ⊥
IsAmong x (y ∷ ys) = (x ≡ y) ⊎ IsAmong x ys

-- each comes before all that follow it
abbrev pub Ascend : {X : Type 0} → (X → X → Type 0) → List X → Type 0
Ascend ComesBefore [] = ⊤
Ascend ComesBefore (x ∷ xs) = AllByRecursion (ComesBefore x) xs × Ascend ComesBefore xs

-- on a lower sheet, or in a lower slot of the same sheet
abbrev pub IsLower : ℕ × ℕ → ℕ × ℕ → Type 0
IsLower one other = (one.0 < other.0) ⊎ ((one.0 ≡ other.0) × (one.1 < other.1))

-- page p is in slot k of sheet s
abbrev pub StandsIn : Layout → (p s k : ℕ) → Type 0
StandsIn layout p s k = slice_get (slice_index_or layout.sheets s []) k ≡ Some (Some p)

-- the places of page p: they ascend, and have a sheet and a slot exactly if the page is there
pub record ArePlaces (layout : Layout) (p : ℕ) (places : List (ℕ × ℕ)) : Type 0 where
  pub ascend : Ascend IsLower places
  pub exact : (s k : ℕ) → IsAmong (s, k) places ↔ StandsIn layout p s k

abbrev pub PlacesAreExact : Type 0
PlacesAreExact = (layout : Layout) (p : ℕ) → ArePlaces layout p (places_of layout p)

-- the sheets without pages: they ascend, and have a sheet exactly if no page is on it
pub record AreWithoutPages (layout : Layout) (sheets : List ℕ) : Type 0 where
  pub ascend : Ascend (λ s t. s < t) sheets
  pub exact : (s : ℕ) → IsAmong s sheets ↔ ((s < length layout.sheets) × ((p k : ℕ) → StandsIn layout p s k → ⊥))

abbrev pub BornCompleteAreWithoutPages : Type 0
BornCompleteAreWithoutPages = (layout : Layout) → AreWithoutPages layout (born_complete layout)
