-- The letter that distinguishes most comments.
use Rattle.std.specs.Prelude.{ℕ, ◌&&◌, ◌==◌, if◌then◌else◌, List, [], ◌∷◌, Option, Some, None}

-- the byte after the two percent signs at the start of a line
abbrev pub letter_of : List ℕ → Option ℕ
letter_of [] = None
letter_of (a ∷ []) = None
letter_of (a ∷ b ∷ []) = None
letter_of (a ∷ b ∷ letter ∷ rest) = if (a == 37) && (b == 37) then Some letter else None
