use Rattle.rules.proofs.Whole.{units_make_text}
use Rattle.rules.proofs.laws.units_make_text.Goals as goal

pub returns : goal.returns
returns c = units_make_text
