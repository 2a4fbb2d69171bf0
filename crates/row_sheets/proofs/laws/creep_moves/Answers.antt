use Rattle.row_sheets.proofs.Leaves.{creep_moves}
use Rattle.row_sheets.proofs.laws.creep_moves.Goals as goal

pub returns : goal.returns
returns c = creep_moves
