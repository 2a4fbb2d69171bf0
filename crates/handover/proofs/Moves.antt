-- The moves of a pass.
use Rattle.std.proofs.Common.{◌≡◌, ℕ, ◌+◌, List, [], ◌∷◌, ◌++◌, refl, ap, arith}
use Rattle.rules.specs.Seats.{total, occurrences}
use Rattle.rules.proofs.SeatCalls.{calls_stand, own_entries_are_kept, whole_seat_made_all}
use Rattle.rules.proofs.SeatCourses.{courses_stand}
use Rattle.rules.proofs.SeatTotals.{total-append}
use Rattle.handover.specs.Queue.{Move, Put, Take, content, IsQueueHistory, sheets_put, sheets_taken}
use Rattle.handover.specs.Passes.{PassView, MakesMoves, seat_of, own_moves}
use Rattle.handover.specs.Laws.{MovesStandInOneHistory, SplitMovesStandInOneHistory, OwnMovesAreKept, WholePassMadeAll, WholePassLosesNone}
use Rattle.handover.proofs.Histories.{first_put_is_first_taken}

pub moves_stand_in_one_history : MovesStandInOneHistory
moves_stand_in_one_history = calls_stand IsQueueHistory

pub split_moves_stand_in_one_history : SplitMovesStandInOneHistory
split_moves_stand_in_one_history = courses_stand IsQueueHistory

pub own_moves_are_kept : OwnMovesAreKept
own_moves_are_kept = own_entries_are_kept IsQueueHistory

-- moves of a pass are moves of the seat that it is
pub seats_make : (old new : PassView) (moves : List Move) → MakesMoves old moves new
    → Rattle.rules.specs.SeatCalls.Makes IsQueueHistory (seat_of old) moves (seat_of new)
seats_make old new [] made = ap seat_of made
seats_make old new (m ∷ moves) made = (seat_of made.0, made.1.0, seats_make made.0 new moves made.2)

pub whole_pass_made_all : WholePassMadeAll
whole_pass_made_all = whole_seat_made_all IsQueueHistory

-- the number of times that a sheet is put, or taken, is a weight of moves
pub put_weight : (s : ℕ) (log : List Move) → total (λ m. occurrences s (sheets_put (m ∷ []))) log ≡ occurrences s (sheets_put log)
put_weight s [] = refl
put_weight s (Put x ∷ log) = let r = put_weight s log in omega arith
put_weight s (Take x ∷ log) = let r = put_weight s log in omega arith

take_weight : (s : ℕ) (log : List Move) → total (λ m. occurrences s (sheets_taken (m ∷ []))) log ≡ occurrences s (sheets_taken log)
take_weight s [] = refl
take_weight s (Put x ∷ log) = let r = take_weight s log in omega arith
take_weight s (Take x ∷ log) = let r = take_weight s log in omega arith

pub whole_pass_loses_none : WholePassLosesNone
whole_pass_loses_none pass s k whole =
    let puts : total (λ m. occurrences s (sheets_put (m ∷ []))) (own_moves pass) ≡ total (λ m. occurrences s (sheets_put (m ∷ []))) pass.front = whole_pass_made_all (seat_of pass) (λ m. occurrences s (sheets_put (m ∷ []))) k whole in
    let takes : total (λ m. occurrences s (sheets_taken (m ∷ []))) (own_moves pass) ≡ total (λ m. occurrences s (sheets_taken (m ∷ []))) pass.front = whole_pass_made_all (seat_of pass) (λ m. occurrences s (sheets_taken (m ∷ []))) k whole in
    let sums : occurrences s (sheets_taken pass.front ++ content pass.front) ≡ occurrences s (sheets_taken pass.front) + occurrences s (content pass.front) = total-append _ (sheets_taken pass.front) (content pass.front) in
    let order : occurrences s (sheets_taken pass.front ++ content pass.front) ≡ occurrences s (sheets_put pass.front) = ap (occurrences s) (first_put_is_first_taken pass.key pass.front k.legal) in
    omega (arith, put_weight s (own_moves pass), put_weight s pass.front, take_weight s (own_moves pass), take_weight s pass.front)
