use Rattle.pictures.proofs.Running.{guarded_twice}
use Rattle.pictures.proofs.laws.guarded_twice.Goals as goal

pub returns : goal.returns
returns c = guarded_twice
