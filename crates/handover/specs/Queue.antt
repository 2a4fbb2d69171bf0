-- Histories of a queue of sheets, and which of them are legal.
use Rattle.std.specs.Prelude.{◌≡◌, ℕ, ◌<◌, List, [], ◌∷◌, ◌++◌, length}

-- an accepted put of a sheet, or a take that returned it
pub data Move : Type 0 where
  Put : ℕ → Move
  Take : ℕ → Move

-- what is left without the oldest
abbrev pub without_oldest : List ℕ → List ℕ
without_oldest [] = []
without_oldest (x ∷ xs) = xs

-- the sheets in the queue after one move, the oldest first
abbrev pub after_move : List ℕ → Move → List ℕ
after_move sheets (Put s) = sheets ++ s ∷ []
after_move sheets (Take s) = without_oldest sheets

abbrev pub after_moves : List ℕ → List Move → List ℕ
after_moves sheets [] = sheets
after_moves sheets (m ∷ ms) = after_moves (after_move sheets m) ms

-- what was put and not yet taken, the oldest first
abbrev pub content : List Move → List ℕ
content log = after_moves [] log

abbrev pub IsOldest : ℕ → List ℕ → Type 0
IsOldest s [] = ⊥
IsOldest s (x ∷ xs) = s ≡ x

-- the move may be made at this content: a put if there is room, and a take of the oldest
abbrev pub MoveFits : (capacity : ℕ) → List ℕ → Move → Type 0
MoveFits capacity sheets (Put s) = length sheets < capacity
MoveFits capacity sheets (Take s) = IsOldest s sheets

-- each of them may be made at its place
abbrev pub AllMovesFit : (capacity : ℕ) → List ℕ → List Move → Type 0
AllMovesFit capacity sheets [] = Unit {0}
AllMovesFit capacity sheets (m ∷ ms) = MoveFits capacity sheets m × AllMovesFit capacity (after_move sheets m) ms

-- a history of a queue of this capacity, from the empty queue on
abbrev pub IsQueueHistory : (capacity : ℕ) → List Move → Type 0
IsQueueHistory capacity log = AllMovesFit capacity [] log

-- the sheets that were put, and those that were taken, in order
abbrev pub sheets_put : List Move → List ℕ
sheets_put [] = []
sheets_put (Put s ∷ ms) = s ∷ sheets_put ms
sheets_put (Take s ∷ ms) = sheets_put ms

abbrev pub sheets_taken : List Move → List ℕ
sheets_taken [] = []
sheets_taken (Put s ∷ ms) = sheets_taken ms
sheets_taken (Take s ∷ ms) = s ∷ sheets_taken ms
