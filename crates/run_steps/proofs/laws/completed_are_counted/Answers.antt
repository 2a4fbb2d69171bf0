use Rattle.run_steps.proofs.Shares.{completed_counted}
use Rattle.run_steps.proofs.laws.completed_are_counted.Goals as goal

pub returns : goal.returns
returns c = completed_counted
