-- The lines of a text, as they are kept.
use Rattle.std.specs.Prelude.{ℕ, ◌==◌, Bool, true, not, ◌&&◌, if◌then◌else◌, List, [], ◌∷◌}

-- no byte is a line feed, so it is one line
abbrev pub is_line : List ℕ → Bool
is_line [] = true
is_line (b ∷ bs) = not (b == 10) && is_line bs

-- a byte before the first of these lines
abbrev pub put_before : ℕ → List (List ℕ) → List (List ℕ)
put_before b [] = (b ∷ []) ∷ []
put_before b (row ∷ rows) = (b ∷ row) ∷ rows

-- the lines of a text, without their line ends
abbrev pub lines_in : List ℕ → List (List ℕ)
lines_in [] = []
lines_in (b ∷ bs) = if b == 10 then [] ∷ lines_in bs else put_before b (lines_in bs)
