use Rattle.gather_table.proofs.Calls.{look_shows_seat}
use Rattle.gather_table.proofs.laws.look_shows_seat.Goals as goal

pub returns : goal.returns
returns c = look_shows_seat
