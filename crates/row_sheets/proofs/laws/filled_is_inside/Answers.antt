use Rattle.row_sheets.proofs.Inside.{filled_is_inside}
use Rattle.row_sheets.proofs.laws.filled_is_inside.Goals as goal

pub returns : goal.returns
returns c = filled_is_inside
