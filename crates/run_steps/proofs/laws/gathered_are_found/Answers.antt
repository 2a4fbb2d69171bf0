use Rattle.run_steps.proofs.Ended.{gathered_are_found}
use Rattle.run_steps.proofs.laws.gathered_are_found.Goals as goal

pub returns : goal.returns
returns c = gathered_are_found
