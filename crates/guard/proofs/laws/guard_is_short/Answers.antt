use Rattle.guard.proofs.Sizes.{guard_is_short}
use Rattle.guard.proofs.laws.guard_is_short.Goals as goal

pub returns : goal.returns
returns c = guard_is_short
