-- Laws of every history of the queue, and of every pass by the contracts of its calls. Laws of histories treat a
-- pass as the seat that it is (`seat_of`).
use Rattle.std.specs.Prelude.{◌≡◌, ℕ, ◌+◌, ◌-◌, ◌≤◌, List, ◌++◌, length}
use Rattle.rules.specs.Seats.{whole_share, occurrences}
use Rattle.rules.specs.SeatLaws.{CallsStandInOneHistory, CoursesStandInOneHistory, OwnEntriesAreKept, WholeSeatMadeAll}
use Rattle.handover.specs.Queue.{Move, content, IsQueueHistory, sheets_put, sheets_taken}
use Rattle.handover.specs.Passes.{PassView, IsPass, PassesJoined, MakesMoves, own_moves, puts_in}

-- sheets are taken in the order in which they were put: those taken, followed by those left, are those put
abbrev pub FirstPutIsFirstTaken : Type 0
FirstPutIsFirstTaken = (capacity : ℕ) (log : List Move) → IsQueueHistory capacity log
    → sheets_taken log ++ content log ≡ sheets_put log

-- there are never more sheets in the queue than its capacity
abbrev pub NeverOverfull : Type 0
NeverOverfull = (capacity : ℕ) (log : List Move) → IsQueueHistory capacity log → length (content log) ≤ capacity

-- a pass that has all shares made all moves of its front: a count over its own moves is the count over the front
abbrev pub WholePassMadeAll : Type 0
WholePassMadeAll = WholeSeatMadeAll IsQueueHistory

-- the sheets that a pass with all shares took, and those left, are those that it put, each as often
abbrev pub WholePassLosesNone : Type 0
WholePassLosesNone = (pass : PassView) (s : ℕ) → IsPass pass → pass.share ≡ whole_share
    → occurrences s (sheets_taken (own_moves pass)) + occurrences s (content pass.front) ≡ occurrences s (sheets_put (own_moves pass))

-- a move is one more own move, a joined pass has those of both, and a split takes none away
abbrev pub OwnMovesAreKept : Type 0
OwnMovesAreKept = OwnEntriesAreKept IsQueueHistory

-- the moves of a pass were made one after the other, while others may have made theirs. They are in one history of
-- the queue, which begins with all that the caller had seen: each at a place of its own, in the order in which they
-- were made
abbrev pub MovesStandInOneHistory : Type 0
MovesStandInOneHistory = CallsStandInOneHistory IsQueueHistory

-- the moves of a caller that splits its pass, makes moves with both parts, and joins them again, are in one history
abbrev pub SplitMovesStandInOneHistory : Type 0
SplitMovesStandInOneHistory = CoursesStandInOneHistory IsQueueHistory

-- moves lower the room of a pass by one for each put, while it has any; a joined pass has the room of both
abbrev pub RoomIsUsedUp : Type 0
RoomIsUsedUp = ((old new : PassView) (moves : List Move) → MakesMoves old moves new
    → puts_in new.room ≡ puts_in old.room - length (sheets_put moves))
    × ((one two new : PassView) → PassesJoined one two new → puts_in new.room ≡ puts_in one.room + puts_in two.room)
