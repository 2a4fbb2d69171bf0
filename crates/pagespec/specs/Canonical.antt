-- Canonical texts are taken, and are at most one byte longer than the text that was read.
use Rattle.std.specs.Prelude.{◌≡◌, ◌⊎◌, ℕ, ◌+◌, ◌<◌, ◌≤◌, List, ◌∷◌, ◌++◌, length}
use Rattle.rules.specs.Bytes.{colon}
use Rattle.rules.specs.Specification.{WrittenItem, IsBareItem, IsDigits, Spec, canonical}
use Rattle.rules.specs.Admissible.{Takes, most_slots}

-- a law: if a text is taken, its canonical text is taken too, with the same result
abbrev pub CanonicalIsTaken : Type 0
CanonicalIsTaken = (text : List ℕ) (spec : Spec) → Takes most_slots text spec → Takes most_slots (canonical spec) spec

-- the text is one item without a page number, with or without a modulo before it
abbrev pub LeavesPageOut : List ℕ → Type 0
LeavesPageOut text =
    (item : WrittenItem)
    × (IsBareItem text item
    ⊎ ((digits rest : List ℕ) × (modulo : ℕ) × (text ≡ digits ++ colon ∷ rest)
    × IsDigits digits modulo × IsBareItem rest item))

-- a law: the canonical text of a text is at most one byte longer, and only if the text leaves its page number out
abbrev pub CanonicalIsShort : Type 0
CanonicalIsShort =
    (text : List ℕ) (spec : Spec) → Takes most_slots text spec
    → (length (canonical spec) ≤ length text + 1) × (length text < length (canonical spec) → LeavesPageOut text)
