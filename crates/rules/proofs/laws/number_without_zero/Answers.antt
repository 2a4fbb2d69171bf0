use Rattle.rules.proofs.WithoutZero.{number_law}
use Rattle.rules.proofs.laws.number_without_zero.Goals as goal

pub returns : goal.returns
returns c = number_law
