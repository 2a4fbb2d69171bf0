use Rattle.open_pictures.proofs.GuardedOperators.{tables_are_placeless_there}
use Rattle.open_pictures.proofs.laws.tables_are_placeless_there.Goals as goal

pub returns : goal.returns
returns c = tables_are_placeless_there
