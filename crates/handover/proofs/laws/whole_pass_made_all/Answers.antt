use Rattle.handover.proofs.Moves.{whole_pass_made_all}
use Rattle.handover.proofs.laws.whole_pass_made_all.Goals as goal

pub returns : goal.returns
returns c = whole_pass_made_all
