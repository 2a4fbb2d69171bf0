use Rattle.row_sheets.proofs.BackToBack.{cells_lie_behind}
use Rattle.row_sheets.proofs.laws.cells_lie_behind.Goals as goal

pub returns : goal.returns
returns c = cells_lie_behind
