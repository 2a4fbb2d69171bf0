use Rattle.rules.proofs.SeatsTogether.{seats_stand_together}
use Rattle.handover.specs.Queue.{IsQueueHistory}
use Rattle.handover.specs.Rule.{seats_of}
use Rattle.handover.proofs.Rooms.{seat_at}
use Rattle.handover.proofs.laws.passes_stand_together.Goals as goal

pub returns : goal.returns
returns c items views kept = (
  kept.0,
  kept.1,
  (λ id v there shares. (kept.2.seats.seats id v.seat (seat_at views id v there)).same_key shares),
  kept.2.holds,
  seats_stand_together IsQueueHistory kept.0 kept.1 (seats_of views) kept.2.legal kept.2.seats,
  kept.2.rooms.enough,
)
