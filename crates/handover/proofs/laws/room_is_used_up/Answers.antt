use Rattle.handover.proofs.Rooms.{room_is_used_up}
use Rattle.handover.proofs.laws.room_is_used_up.Goals as goal

pub returns : goal.returns
returns c = room_is_used_up
