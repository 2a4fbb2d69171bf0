use Rattle.row_sheets.proofs.Fewest.{poster_has_scale}
use Rattle.row_sheets.proofs.laws.poster_has_scale.Goals as goal

pub returns : goal.returns
returns c = poster_has_scale
