use Rattle.dressing.proofs.Quiet.{drawn_are_found}
use Rattle.dressing.proofs.laws.drawn_are_found.Goals as goal

pub returns : goal.returns
returns c = drawn_are_found
