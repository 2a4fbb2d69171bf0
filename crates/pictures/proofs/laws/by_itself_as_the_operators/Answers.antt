use Rattle.pictures.proofs.ByItself.{by_itself_as_the_operators}
use Rattle.pictures.proofs.laws.by_itself_as_the_operators.Goals as goal

pub returns : goal.returns
returns c = by_itself_as_the_operators
