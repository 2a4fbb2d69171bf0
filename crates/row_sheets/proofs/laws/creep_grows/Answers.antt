use Rattle.row_sheets.proofs.Leaves.{creep_grows}
use Rattle.row_sheets.proofs.laws.creep_grows.Goals as goal

pub returns : goal.returns
returns c = creep_grows
