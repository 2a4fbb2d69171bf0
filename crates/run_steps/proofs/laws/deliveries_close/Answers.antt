use Rattle.run_steps.proofs.Shares.{deliveries_close}
use Rattle.run_steps.proofs.laws.deliveries_close.Goals as goal

pub returns : goal.returns
returns c = deliveries_close
