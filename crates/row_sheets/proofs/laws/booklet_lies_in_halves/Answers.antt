use Rattle.row_sheets.proofs.Halves.{booklet_lies_in_halves}
use Rattle.row_sheets.proofs.laws.booklet_lies_in_halves.Goals as goal

pub returns : goal.returns
returns c = booklet_lies_in_halves
