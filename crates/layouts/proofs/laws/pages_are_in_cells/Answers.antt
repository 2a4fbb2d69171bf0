use Rattle.layouts.proofs.InCell.{grid_in_cell}
use Rattle.layouts.proofs.laws.pages_are_in_cells.Goals as goal

pub returns : goal.returns
returns c = grid_in_cell
