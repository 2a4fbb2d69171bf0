use Rattle.row_sheets.proofs.Stacking.{leaves_are_read}
use Rattle.row_sheets.proofs.laws.leaves_are_read.Goals as goal

pub returns : goal.returns
returns c = leaves_are_read
