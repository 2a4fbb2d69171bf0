use Rattle.gather_table.proofs.Calls.{whole_seat_made_all}
use Rattle.gather_table.proofs.laws.whole_seat_made_all.Goals as goal

pub returns : goal.returns
returns c = whole_seat_made_all
