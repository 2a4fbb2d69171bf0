use Rattle.dressing.proofs.Tame.{drawn_is_tame}
use Rattle.dressing.proofs.laws.drawn_is_tame.Goals as goal

pub returns : goal.returns
returns c = drawn_is_tame
