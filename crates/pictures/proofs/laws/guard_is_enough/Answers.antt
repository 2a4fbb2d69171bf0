use Rattle.pictures.proofs.Ground.{guard_is_enough}
use Rattle.pictures.proofs.laws.guard_is_enough.Goals as goal

pub returns : goal.returns
returns c = guard_is_enough
