use Rattle.row_sheets.proofs.Inside.{filled_is_apart}
use Rattle.row_sheets.proofs.laws.filled_is_apart.Goals as goal

pub returns : goal.returns
returns c = filled_is_apart
