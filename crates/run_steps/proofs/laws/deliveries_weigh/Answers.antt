use Rattle.run_steps.proofs.Shares.{delivery_weight}
use Rattle.run_steps.proofs.laws.deliveries_weigh.Goals as goal

pub returns : goal.returns
returns c = delivery_weight
