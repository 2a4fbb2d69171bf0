-- What clauses see of the ready queue and of its passes. A pass is a seat of the queue's history, with room. What
-- holds of the seats of any history is in `rules` (`Seats`).
use Rattle.std.specs.Prelude.{◌≡◌, ℕ, ◌+◌, ◌-◌, List, [], ◌∷◌, Option, Some, None}
use Rattle.atomic_table.specs.Seated.{TableId}
use Rattle.rules.specs.Seats.{whole_share}
use Rattle.rules.specs.SeatCalls.{HistorySeat, IsOf, IsSeat, own_entries}
use Rattle.handover.specs.Queue.{Move, Put, Take, IsQueueHistory}

-- a queue and its capacity in sheets
pub record QueueView : Type 0 where
  pub queue : TableId
  pub capacity : ℕ

-- a pass: its queue, the capacity (its key), the history that its caller has seen, the places in it of the caller's own
-- moves, its share, and its room
pub record PassView : Type 0 where
  pub table : TableId
  pub key : ℕ
  pub front : List Move
  pub own : List ℕ
  pub share : ℕ
  -- how many puts it may make that won't be refused, for a queue in which puts are made by right
  pub room : Option ℕ

-- a pass without its room: a seat of the queue's history
abbrev pub seat_of : PassView → HistorySeat ℕ Move
seat_of p = record { table = p.table; key = p.key; front = p.front; own = p.own; share = p.share }

abbrev pub IsPassOf : QueueView → PassView → Type 0
IsPassOf q pass = IsOf q.queue q.capacity (seat_of pass)

-- the pass with which a queue is made: it has all shares, and has seen nothing
abbrev pub opening_pass : QueueView → PassView
opening_pass q =
    record { table = q.queue; key = q.capacity; front = []; own = []; share = whole_share; room = None }

-- the first pass of a queue in which puts are made by right: it has all of the queue's room
abbrev pub opening_pass_by_right : QueueView → PassView
opening_pass_by_right q = record (opening_pass q) { room = Some q.capacity }

-- what every pass keeps to: its front is a history of the queue, and its own places are places of the front, each
-- once. If it has all shares, they are all places of it
abbrev pub IsPass : PassView → Type 0
IsPass pass = IsSeat IsQueueHistory (seat_of pass)

-- the pass's own moves
abbrev pub own_moves : PassView → List Move
own_moves pass = own_entries (seat_of pass)

-- how many puts may be made by right with this room
abbrev pub puts_in : Option ℕ → ℕ
puts_in None = 0
puts_in (Some n) = n

-- the room that is left after a move: a put by right lowers it by one
abbrev pub room_after : Move → Option ℕ → Option ℕ
room_after (Take s) room = room
room_after (Put s) None = None
room_after (Put s) (Some n) = Some (n - 1)

-- the room that is kept if this much is given away, and the room that is given
abbrev pub room_kept : ℕ → Option ℕ → Option ℕ
room_kept give None = None
room_kept give (Some n) = Some (n - give)

abbrev pub room_given : ℕ → Option ℕ → Option ℕ
room_given give None = None
room_given give (Some n) = Some give

-- the room of two passes together
abbrev pub both_rooms : Option ℕ → Option ℕ → Option ℕ
both_rooms None room = room
both_rooms (Some n) None = Some n
both_rooms (Some n) (Some m) = Some (n + m)

-- the move was made: the new front is the old one, then what others did in the meantime, then this move, whose
-- place is one more own place. If the pass has all shares, there are no others. A put by right lowers the room
abbrev pub MadeMove : PassView → Move → PassView → Type 0
MadeMove old m new =
    Rattle.rules.specs.SeatCalls.Made IsQueueHistory (seat_of old) m (seat_of new)
    × (new.room ≡ room_after m old.room)

-- a pass's view after exactly these moves, one after the other
abbrev pub MakesMoves : PassView → List Move → PassView → Type 0
MakesMoves old [] new = old ≡ new
MakesMoves old (m ∷ ms) new = (mid : PassView) × MadeMove old m mid × MakesMoves mid ms new

-- one pass with the longer front, the own places of both, none of which is shared, both shares and the room of both
abbrev pub PassesJoined : PassView → PassView → PassView → Type 0
PassesJoined a b new =
    Rattle.rules.specs.SeatCalls.Joined IsQueueHistory (seat_of a) (seat_of b) (seat_of new)
    × (new.room ≡ both_rooms a.room b.room)
