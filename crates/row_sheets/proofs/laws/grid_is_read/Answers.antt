use Rattle.row_sheets.proofs.Stacking.{grid_is_read}
use Rattle.row_sheets.proofs.laws.grid_is_read.Goals as goal

pub returns : goal.returns
returns c = grid_is_read
