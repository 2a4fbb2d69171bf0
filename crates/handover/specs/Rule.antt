-- The rule of the ready queue, and what its passes know.
use Rattle.std.specs.Prelude.{◌≡◌, ℕ, ◌+◌, ◌<◌, ◌≤◌, Bool, List, [], ◌∷◌, length, Option, None, is_some}
use mathlib.Core.Option.{some}
use lib.ListN.{get_elem?}
use Rattle.rules.specs.Seats.{AreSeats, total}
use Rattle.rules.specs.SeatLaws.{StandTogether}
use Rattle.rules.specs.Seats as sights
use Rattle.handover.specs.Queue.{Move, content, IsQueueHistory}
use Rattle.atomic_table.specs.Seated.{TableId}
use Rattle.handover.specs.Passes.{PassView, puts_in}

-- what a pass knows as a seat of the queue's history, whose capacity is the key
abbrev pub SeatSight : Type 0
SeatSight = Rattle.rules.specs.Seats.Sight ℕ Move

-- what a pass knows: its seat, and its room
pub record PassSight : Type 0 where
  pub seat : SeatSight
  pub room : Option ℕ

abbrev pub seats_of : List PassSight → List SeatSight
seats_of [] = []
seats_of (v ∷ vs) = v.seat ∷ seats_of vs

-- a pass that was joined into another
abbrev pub spent_pass : PassSight
spent_pass = record { seat = sights.spent 0; room = None }

-- the pass with which a queue is made, before it learns the capacity
abbrev pub first_sight : PassSight
first_sight = record { seat = sights.opening_sight 0; room = None }

-- how many puts it may make by right
abbrev pub puts_allowed : PassSight → ℕ
puts_allowed v = puts_in v.room

-- the view of a pass of this queue that knows this
abbrev pub pass_view : TableId → PassSight → PassView
pass_view table v = record {
  table = table;
  key = v.seat.key;
  front = v.seat.front;
  own = v.seat.own;
  share = v.seat.share;
  room = v.room;
}

-- a pass between two calls: it has this share and this room, and keeps to what every pass keeps to
pub record PassStands (v : PassSight) (its_share : ℕ) (its_room : Option ℕ) : Type 0 where
  pub seat : Rattle.rules.specs.SeatRules.StandsAlone IsQueueHistory v.seat its_share
  pub room : its_room ≡ v.room

-- a pass has room if puts are made by right, and otherwise none; one without a share can make none by right
pub record IsRoomed (by_right : Bool) (v : PassSight) : Type 0 where
  pub alike : 0 < v.seat.share → is_some v.room ≡ by_right
  pub idle : v.seat.share ≡ 0 → puts_allowed v ≡ 0

-- the rooms of all passes, and the sheets that the queue holds, are never more than its capacity
pub record AreRooms (by_right : Bool) (capacity held : ℕ) (views : List PassSight) : Type 0 where
  pub each : (id : ℕ) (v : PassSight) → get_elem? views id ≡ some v → IsRoomed by_right v
  pub enough : total puts_allowed views + held ≤ capacity

-- between any two steps there is one history. The queue holds its content, and each pass has seen a beginning of
-- it. There is room for all puts that may be made by right
pub record IsPassHistory (items : List ℕ) (views : List PassSight) (capacity : ℕ) (log : List Move) : Type 0 where
  pub legal : IsQueueHistory capacity log
  pub holds : content log ≡ items
  pub seats : AreSeats capacity log (seats_of views)
  pub small : capacity ≤ 4_294_967_295
  pub by_right : Bool
  pub rooms : AreRooms by_right capacity (length items) views

abbrev pub HasPassHistory : List ℕ → List PassSight → Type 0
HasPassHistory items views = (capacity : ℕ) × (log : List Move) × IsPassHistory items views capacity log

-- the capacity of the passes' queue, as each pass with a share knows it: its key
abbrev pub IsCapacityOf : List PassSight → ℕ → Type 0
IsCapacityOf views capacity = (id : ℕ) (v : PassSight) → get_elem? views id ≡ some v → 0 < v.seat.share → v.seat.key ≡ capacity

-- all passes of a queue at one moment, whether they ever met or not. Their moves are in one history, whose content
-- is what the queue holds, and no move is an own move of two of them. That content, with the puts that they may
-- still make by right, is at most the queue's capacity. This holds between any two steps of a queue with this rule
abbrev pub PassesStandTogether : (rule : List ℕ → List PassSight → Type 0) → Type 0
PassesStandTogether rule = (items : List ℕ) (views : List PassSight) → rule items views
    → (capacity : ℕ) × (log : List Move) × IsCapacityOf views capacity × (content log ≡ items)
    × StandTogether IsQueueHistory capacity log (seats_of views)
    × (total puts_allowed views + length items ≤ capacity)
