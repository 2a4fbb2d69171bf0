use Rattle.rules.proofs.Made.{made_is_output}
use Rattle.rules.proofs.laws.made_is_output.Goals as goal

pub returns : goal.returns
returns c = made_is_output
