use Rattle.rules.proofs.Auto.{auto_signatures}
use Rattle.rules.proofs.laws.auto_signatures.Goals as goal

pub returns : goal.returns
returns c = auto_signatures
