use Rattle.row_sheets.proofs.ZineCells.{zine_lies_in_cells}
use Rattle.row_sheets.proofs.laws.zine_lies_in_cells.Goals as goal

pub returns : goal.returns
returns c = zine_lies_in_cells
