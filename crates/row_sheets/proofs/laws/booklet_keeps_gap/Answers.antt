use Rattle.row_sheets.proofs.LeftGap.{booklet_keeps_gap}
use Rattle.row_sheets.proofs.laws.booklet_keeps_gap.Goals as goal

pub returns : goal.returns
returns c = booklet_keeps_gap
