use Rattle.row_runs.proofs.Turns.{turns_add_up}
use Rattle.row_runs.proofs.laws.turns_add_up.Goals as goal

pub returns : goal.returns
returns c = turns_add_up
