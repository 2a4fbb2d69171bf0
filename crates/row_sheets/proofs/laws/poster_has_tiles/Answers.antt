use Rattle.row_sheets.proofs.Shown.{poster_has_tiles}
use Rattle.row_sheets.proofs.laws.poster_has_tiles.Goals as goal

pub returns : goal.returns
returns c = poster_has_tiles
