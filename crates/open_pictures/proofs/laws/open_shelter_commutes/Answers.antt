use Rattle.open_pictures.proofs.Sheltering.{open_shelter_commutes}
use Rattle.open_pictures.proofs.laws.open_shelter_commutes.Goals as goal

pub returns : goal.returns
returns c = open_shelter_commutes
