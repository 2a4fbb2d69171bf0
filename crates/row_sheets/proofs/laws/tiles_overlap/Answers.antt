use Rattle.row_sheets.proofs.Tiles.{tiles_overlap}
use Rattle.row_sheets.proofs.laws.tiles_overlap.Goals as goal

pub returns : goal.returns
returns c = tiles_overlap
