-- The place of a fault: how far some text of the grammar goes along with a text, and where its readers can't go on.
use Rattle.std.specs.Prelude.{◌≡◌, ◌≢◌, ℕ, ◌<◌, ◌≤◌, List, [], ◌∷◌, ◌++◌, ◌⊎◌, length, take, Option, Some, None}
use Rattle.rules.specs.Papers.{LengthUnit, Pt}
use Rattle.rules.specs.Specification.{WrittenSpec, Modifier, IsSpec, AreModifiers, unit_name}

-- some text of the grammar begins with these bytes
abbrev pub IsBeginning : List ℕ → Type 0
IsBeginning front = (more : List ℕ) × (spec : WrittenSpec) × IsSpec (front ++ more) spec

-- the length of the longest beginning of a text with which some text of the grammar begins
unfoldable pub IsPlaceIn : List ℕ → ℕ → Type 0
IsPlaceIn text at = (at ≤ length text) × IsBeginning (take at text)
    × ((n : ℕ) → at < n → n ≤ length text → IsBeginning (take n text) → ⊥)

-- with this many bytes left, a reader can't go on: what comes before is the beginning of what it reads, and with the
-- next byte after that it fails, whatever follows
pub record IsStuck (Begun Fails : List ℕ → Type 0) (bytes : List ℕ) (left : ℕ) : Type 0 where
  pub front : List ℕ
  pub back : List ℕ
  pub split : bytes ≡ front ++ back
  pub left_is : left ≡ length back
  pub more : List ℕ
  pub begun : Begun (front ++ more)
  pub fails : (b : ℕ) (tail : List ℕ) → back ≡ b ∷ tail → (after : List ℕ) → Fails (front ++ b ∷ after)

-- a reader reads nothing, and this many bytes are left
abbrev pub StuckIn : {X Y : Type 0} → (List ℕ → X → Type 0) → (List ℕ → Option Y) → List ℕ → ℕ → Type 0
StuckIn {X = X} R part bytes left = (part bytes ≡ None) × IsStuck (λ t. (x : X) × R t x) (λ t. part t ≡ None) bytes left

-- a reader reads something before a rest that begins with the same byte
abbrev pub ReadsBefore : {X : Type 0} → List ℕ → Option (X × List ℕ) → Type 0
ReadsBefore {X = X} rest o = (x : X) × (after : List ℕ) × (o ≡ Some (x, after)) × (take 1 after ≡ take 1 rest)

-- a reader read something before this rest, and can't read more
abbrev pub StuckAfter : {X : Type 0} → (List ℕ → X → Type 0) → (List ℕ → Option (X × List ℕ)) → List ℕ → List ℕ → ℕ
    → Type 0
StuckAfter {X = X} R part bytes rest left =
    IsStuck (λ t. (x : X) × R t x) (λ t. ReadsBefore rest (part t)) bytes left

-- a unit, which is points if it is left out
abbrev pub IsUnit : List ℕ → LengthUnit → Type 0
IsUnit text u = (text ≡ unit_name u) ⊎ ((text ≡ []) × (u ≡ Pt))

-- one modifier or more
abbrev pub AreSomeModifiers : List ℕ → List Modifier → Type 0
AreSomeModifiers text ms = AreModifiers text ms × (text ≢ [])
