use Rattle.open_pictures.proofs.Operators.{tables_are_placeless}
use Rattle.open_pictures.proofs.laws.tables_are_placeless.Goals as goal

pub returns : goal.returns
returns c = tables_are_placeless
