use Rattle.imposed_again.proofs.Texts.{units_joined}
use Rattle.imposed_again.proofs.laws.units_join.Goals as goal

pub returns : goal.returns
returns c = units_joined
