use Rattle.handover.proofs.Moves.{own_moves_are_kept}
use Rattle.handover.proofs.laws.own_moves_are_kept.Goals as goal

pub returns : goal.returns
returns c = own_moves_are_kept
