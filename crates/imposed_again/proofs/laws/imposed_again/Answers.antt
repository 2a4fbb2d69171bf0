use Rattle.imposed_again.proofs.Again.{imposed_again}
use Rattle.imposed_again.proofs.laws.imposed_again.Goals as goal

pub returns : goal.returns
returns c = imposed_again
