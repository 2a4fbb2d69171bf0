use Rattle.guard.proofs.TheGuard.{guard_stays}
use Rattle.guard.proofs.laws.guard_stays.Goals as goal

pub returns : goal.returns
returns c = guard_stays
