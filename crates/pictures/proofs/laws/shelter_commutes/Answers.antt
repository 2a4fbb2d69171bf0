use Rattle.pictures.proofs.Sheltering.{shelter_commutes}
use Rattle.pictures.proofs.laws.shelter_commutes.Goals as goal

pub returns : goal.returns
returns c = shelter_commutes
