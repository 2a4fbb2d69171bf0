use Rattle.layouts.proofs.Backs.{back_is_half_turn}
use Rattle.layouts.proofs.laws.back_is_half_turn.Goals as goal

pub returns : goal.returns
returns c = back_is_half_turn
