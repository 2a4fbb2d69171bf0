use Rattle.dressing.proofs.Quiet.{drawn_is_quiet}
use Rattle.dressing.proofs.laws.drawn_is_quiet.Goals as goal

pub returns : goal.returns
returns c = drawn_is_quiet
