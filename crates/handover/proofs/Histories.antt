-- Histories that grow.
use Rattle.std.proofs.Common.{◌≡◌, ℕ, ◌≤◌, List, [], ◌∷◌, ◌++◌, length, refl, sym, ◌∙◌, arith, append_assoc, append-nil, length-append}
use Rattle.handover.specs.Laws.{FirstPutIsFirstTaken, NeverOverfull}
use Rattle.handover.specs.Queue.{Move, Put, Take, after_move, after_moves, MoveFits, AllMovesFit, sheets_put, sheets_taken}

pub after_push : (sheets : List ℕ) (log : List Move) (m : Move) → after_moves sheets (log ++ m ∷ []) ≡ after_move (after_moves sheets log) m
after_push sheets [] m = refl
after_push sheets (x ∷ log) m = after_push (after_move sheets x) log m

pub AllFit_push : (capacity : ℕ) (sheets : List ℕ) (log : List Move) (m : Move) → AllMovesFit capacity sheets log → MoveFits capacity (after_moves sheets log) m → AllMovesFit capacity sheets (log ++ m ∷ [])
AllFit_push capacity sheets [] m h fits = (fits, tt)
AllFit_push capacity sheets (x ∷ log) m h fits = (h.0, AllFit_push capacity (after_move sheets x) log m h.1 fits)

-- sheets leave in order
in_order : (capacity : ℕ) (sheets : List ℕ) (log : List Move) → AllMovesFit capacity sheets log → sheets_taken log ++ after_moves sheets log ≡ sheets ++ sheets_put log
in_order capacity sheets [] h = sym (append-nil sheets)
in_order capacity sheets (Put s ∷ log) h = in_order capacity (sheets ++ s ∷ []) log h.1 ∙ append_assoc sheets (s ∷ []) (sheets_put log)
in_order capacity [] (Take s ∷ log) h = absurd h.0
in_order capacity (x ∷ xs) (Take s ∷ log) h = let rest = in_order capacity xs log h.1 in λ i. h.0 i ∷ rest i

pub first_put_is_first_taken : FirstPutIsFirstTaken
first_put_is_first_taken capacity log h = in_order capacity [] log h

-- a queue that is within its capacity stays so
within : (capacity : ℕ) (sheets : List ℕ) (log : List Move) → length sheets ≤ capacity → AllMovesFit capacity sheets log → length (after_moves sheets log) ≤ capacity
within capacity sheets [] le h = le
within capacity sheets (Put s ∷ log) le h = let room = h.0 in within capacity (sheets ++ s ∷ []) log (omega (arith, length-append sheets (s ∷ []))) h.1
within capacity [] (Take s ∷ log) le h = absurd h.0
within capacity (x ∷ xs) (Take s ∷ log) le h = within capacity xs log (omega arith) h.1

pub never_overfull : NeverOverfull
never_overfull capacity log h = within capacity [] log (omega arith) h
