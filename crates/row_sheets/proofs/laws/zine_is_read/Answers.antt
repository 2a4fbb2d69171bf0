use Rattle.row_sheets.proofs.Zines.{zine_is_read}
use Rattle.row_sheets.proofs.laws.zine_is_read.Goals as goal

pub returns : goal.returns
returns c = zine_is_read
