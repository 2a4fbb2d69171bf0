use Rattle.rules.proofs.Signatures.{without_sides}
use Rattle.rules.proofs.laws.without_sides.Goals as goal

pub returns : goal.returns
returns c = without_sides
