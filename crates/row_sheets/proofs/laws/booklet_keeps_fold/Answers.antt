use Rattle.row_sheets.proofs.Inside.{booklet_keeps_fold}
use Rattle.row_sheets.proofs.laws.booklet_keeps_fold.Goals as goal

pub returns : goal.returns
returns c = booklet_keeps_fold
