use Rattle.handover.proofs.Moves.{whole_pass_loses_none}
use Rattle.handover.proofs.laws.whole_pass_loses_none.Goals as goal

pub returns : goal.returns
returns c = whole_pass_loses_none
