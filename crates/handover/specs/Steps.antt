-- What each step reveals.
use Rattle.std.specs.Prelude.{◌≡◌, ℕ, ◌<◌, ◌≤◌, List, [], length, Option, None}
use Rattle.rules.specs.Seats.{Learned, whole_share, keeps_back, given, absorbed, opening_sight}
use Rattle.rules.specs.Seats as sights
use Rattle.handover.specs.Queue.{Move, content, IsQueueHistory}
use Rattle.handover.specs.Passes.{room_after, room_kept, room_given, both_rooms}
use Rattle.handover.specs.Rule.{PassSight, puts_allowed}

-- the move was made
pub record AddsMove (v : PassSight) (m : Move) (w : PassSight) : Type 0 where
  pub seat : Rattle.rules.specs.Seats.Adds IsQueueHistory v.seat m w.seat
  pub room : w.room ≡ room_after m v.room

-- a step that changes no pass. The front of a pass that has all shares is the whole history, and its content is
-- what the queue held. A pass that may put by right finds room
pub record Sees (v : PassSight) (items : List ℕ) : Type 0 where
  pub whole : v.seat.share ≡ whole_share → content v.seat.front ≡ items
  pub by_right : 0 < puts_allowed v → length items < v.seat.key

-- a look from which a pass learns what the rule says about it
pub record Learns (v : PassSight) (items : List ℕ) : Type 0 where
  pub seat : Learned v.seat
  pub few : puts_allowed v ≤ 4_294_967_295

-- a pass that gives this share and this room away, and the pass that gets them
abbrev pub keeps_of : (share room : ℕ) → PassSight → PassSight
keeps_of share room v = record { seat = keeps_back v.seat.own share v.seat; room = room_kept room v.room }

abbrev pub gets_of : (share room : ℕ) → PassSight → PassSight
gets_of share room v = record { seat = given [] share v.seat; room = room_given room v.room }

-- two passes in one
abbrev pub both_of : PassSight → PassSight → PassSight
both_of v w = record { seat = absorbed v.seat w.seat; room = both_rooms v.room w.room }

-- the first pass, once it knows the capacity, and its room
abbrev pub first_pass : ℕ → Option ℕ → PassSight
first_pass capacity room = record { seat = opening_sight capacity; room = room }

-- a pass that nobody has
abbrev pub spent_of : ℕ → PassSight
spent_of capacity = record { seat = sights.spent capacity; room = None }
