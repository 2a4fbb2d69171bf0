use Rattle.row_sheets.proofs.Tiles.{poster_covers}
use Rattle.row_sheets.proofs.laws.poster_covers.Goals as goal

pub returns : goal.returns
returns c = poster_covers
