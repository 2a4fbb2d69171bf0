use Rattle.row_runs.proofs.NumbersLie.{numbers_in_cells, numbers_in_halves}
use Rattle.row_runs.proofs.laws.numbers_lie_in_cells.Goals as goal

pub returns-clause-cells : goal.returns-clause-cells
returns-clause-cells c = numbers_in_cells

pub returns-clause-halves : goal.returns-clause-halves
returns-clause-halves c = numbers_in_halves
