use Rattle.open_pictures.proofs.Own.{open_own_picture}
use Rattle.open_pictures.proofs.laws.open_own_picture.Goals as goal

pub returns : goal.returns
returns c = open_own_picture
