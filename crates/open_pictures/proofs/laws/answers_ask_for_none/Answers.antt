use Rattle.open_pictures.proofs.Operators.{answers_ask_for_none}
use Rattle.open_pictures.proofs.laws.answers_ask_for_none.Goals as goal

pub returns : goal.returns
returns c = answers_ask_for_none
