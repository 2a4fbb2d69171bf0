use Rattle.handover.proofs.Moves.{split_moves_stand_in_one_history}
use Rattle.handover.proofs.laws.split_moves_stand_in_one_history.Goals as goal

pub returns : goal.returns
returns c = split_moves_stand_in_one_history
