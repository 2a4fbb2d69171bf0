use Rattle.run_steps.proofs.HandingOn.{none_handed_back}
use Rattle.run_steps.proofs.laws.none_handed_back.Goals as goal

pub returns : goal.returns
returns c = none_handed_back
