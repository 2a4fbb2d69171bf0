use Rattle.rules.proofs.Dressed.{dressed_is_made}
use Rattle.rules.proofs.laws.dressed_is_made.Goals as goal

pub returns : goal.returns
returns c = dressed_is_made
