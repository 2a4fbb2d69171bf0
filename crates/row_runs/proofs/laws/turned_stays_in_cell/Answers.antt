use Rattle.row_runs.proofs.Boxes.{turned_stays_in_cell}
use Rattle.row_runs.proofs.laws.turned_stays_in_cell.Goals as goal

pub returns : goal.returns
returns c = turned_stays_in_cell
