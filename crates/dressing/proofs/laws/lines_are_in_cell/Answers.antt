use Rattle.dressing.proofs.Beside.{lines_are_in_cell}
use Rattle.dressing.proofs.laws.lines_are_in_cell.Goals as goal

pub returns : goal.returns
returns c = lines_are_in_cell
