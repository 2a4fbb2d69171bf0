use Rattle.gather_table.proofs.Calls.{seats_complete_once}
use Rattle.gather_table.proofs.laws.seats_complete_once.Goals as goal

pub returns : goal.returns
returns c = seats_complete_once
