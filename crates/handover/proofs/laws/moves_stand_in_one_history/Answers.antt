use Rattle.handover.proofs.Moves.{moves_stand_in_one_history}
use Rattle.handover.proofs.laws.moves_stand_in_one_history.Goals as goal

pub returns : goal.returns
returns c = moves_stand_in_one_history
