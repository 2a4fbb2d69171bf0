use Rattle.pictures.proofs.Ground.{stays_guarded}
use Rattle.pictures.proofs.laws.stays_guarded.Goals as goal

pub returns : goal.returns
returns c = stays_guarded
