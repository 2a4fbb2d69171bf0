use Rattle.rules.proofs.Signatures.{whole_signatures}
use Rattle.rules.proofs.laws.whole_signatures.Goals as goal

pub returns : goal.returns
returns c = whole_signatures
