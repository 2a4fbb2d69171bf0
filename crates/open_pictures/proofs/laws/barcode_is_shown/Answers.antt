use Rattle.open_pictures.proofs.Barcode.{barcode_is_shown}
use Rattle.open_pictures.proofs.laws.barcode_is_shown.Goals as goal

pub returns : goal.returns
returns c = barcode_is_shown
