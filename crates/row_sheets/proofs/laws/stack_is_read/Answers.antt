use Rattle.row_sheets.proofs.Stacking.{stack_is_read}
use Rattle.row_sheets.proofs.laws.stack_is_read.Goals as goal

pub returns : goal.returns
returns c = stack_is_read
