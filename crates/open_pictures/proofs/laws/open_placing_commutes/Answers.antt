use Rattle.open_pictures.proofs.Commutes.{open_placing_commutes}
use Rattle.open_pictures.proofs.laws.open_placing_commutes.Goals as goal

pub returns : goal.returns
returns c = open_placing_commutes
