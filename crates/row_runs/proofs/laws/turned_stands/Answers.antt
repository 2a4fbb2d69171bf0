use Rattle.row_runs.proofs.Turns.{turned_stands}
use Rattle.row_runs.proofs.laws.turned_stands.Goals as goal

pub returns : goal.returns
returns c = turned_stands
