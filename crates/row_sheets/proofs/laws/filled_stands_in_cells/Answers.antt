use Rattle.row_sheets.proofs.InCells.{filled_stands_in_cells}
use Rattle.row_sheets.proofs.laws.filled_stands_in_cells.Goals as goal

pub returns : goal.returns
returns c = filled_stands_in_cells
