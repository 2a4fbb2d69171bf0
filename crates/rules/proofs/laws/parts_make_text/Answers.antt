use Rattle.rules.proofs.Whole.{parts_make_text}
use Rattle.rules.proofs.laws.parts_make_text.Goals as goal

pub returns : goal.returns
returns c = parts_make_text
