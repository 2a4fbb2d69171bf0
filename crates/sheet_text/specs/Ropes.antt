-- The bytes of a text in pieces.
use Rattle.std.specs.Prelude.{ℕ, ◌-◌, ◌<◌, ◌≤◌, List, [], ◌∷◌, ◌++◌, length, take, drop}
use Rattle.sheet_text.specs.declared.rope.Borrowed.{Borrowed}

-- its own bytes, the first of which has this place, and between them the slices: each before the byte that has its place
abbrev pub woven : ℕ → List ℕ → List Borrowed → List ℕ
woven from own [] = own
woven from own (s ∷ ss) = take (s.at - from) own ++ s.bytes.now ++ woven s.at (drop (s.at - from) own) ss

-- the places of the slices ascend from the first to the last of these two, and no slice is empty
abbrev pub AreInPlace : (first last : ℕ) → List Borrowed → Type 0
AreInPlace first last [] = first ≤ last
AreInPlace first last (s ∷ ss) = (first ≤ s.at) × (0 < length s.bytes.now) × AreInPlace s.at last ss
