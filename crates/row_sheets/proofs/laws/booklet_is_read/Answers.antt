use Rattle.row_sheets.proofs.Folding.{booklet_is_read}
use Rattle.row_sheets.proofs.laws.booklet_is_read.Goals as goal

pub returns : goal.returns
returns c = booklet_is_read
