use Rattle.open_pictures.proofs.Operators.{tables_are_blind}
use Rattle.open_pictures.proofs.laws.tables_are_blind.Goals as goal

pub returns : goal.returns
returns c = tables_are_blind
