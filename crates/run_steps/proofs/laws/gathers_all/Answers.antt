use Rattle.run_steps.proofs.Counts.{gathers_all}
use Rattle.run_steps.proofs.laws.gathers_all.Goals as goal

pub returns : goal.returns
returns c = gathers_all
