use Rattle.run_steps.proofs.Shares.{together}
use Rattle.run_steps.proofs.laws.shares_are_all.Goals as goal

pub returns : goal.returns
returns c = together
