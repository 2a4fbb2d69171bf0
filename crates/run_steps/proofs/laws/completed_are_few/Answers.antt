use Rattle.run_steps.proofs.Shares.{completed_few}
use Rattle.run_steps.proofs.laws.completed_are_few.Goals as goal

pub returns : goal.returns
returns c = completed_few
