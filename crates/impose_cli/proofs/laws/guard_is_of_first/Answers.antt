use Rattle.impose_cli.proofs.Guarding.{guard_is_of_first}
use Rattle.impose_cli.proofs.laws.guard_is_of_first.Goals as goal

pub returns : goal.returns
returns c = guard_is_of_first
