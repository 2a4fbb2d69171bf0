use Rattle.imposer.proofs.Piped.{runs_go_on}
use Rattle.imposer.proofs.laws.runs_go_on.Goals as goal

pub returns : goal.returns
returns c = runs_go_on
