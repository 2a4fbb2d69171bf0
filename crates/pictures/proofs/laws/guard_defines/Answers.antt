use Rattle.pictures.proofs.Running.{guard_defines}
use Rattle.pictures.proofs.laws.guard_defines.Goals as goal

pub returns : goal.returns
returns c = guard_defines
