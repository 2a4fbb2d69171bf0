use Rattle.run_steps.proofs.Ended.{taken_at_most_once}
use Rattle.run_steps.proofs.laws.taken_at_most_once.Goals as goal

pub returns : goal.returns
returns c = taken_at_most_once
