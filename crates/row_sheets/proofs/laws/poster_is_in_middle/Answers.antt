use Rattle.row_sheets.proofs.Largest.{poster_is_in_middle}
use Rattle.row_sheets.proofs.laws.poster_is_in_middle.Goals as goal

pub returns : goal.returns
returns c = poster_is_in_middle
