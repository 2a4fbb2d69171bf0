use Rattle.imposed_again.proofs.Again.{trailer_shuts}
use Rattle.imposed_again.proofs.laws.trailer_shuts.Goals as goal

pub returns : goal.returns
returns c = trailer_shuts
