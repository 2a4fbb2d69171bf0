use Rattle.rules.proofs.OneSpec.{one_reading}
use Rattle.rules.proofs.laws.one_reading.Goals as goal

pub returns : goal.returns
returns c = one_reading
