use Rattle.row_sheets.proofs.Inside.{sides_are_apart}
use Rattle.row_sheets.proofs.laws.sides_are_apart.Goals as goal

pub returns : goal.returns
returns c = sides_are_apart
