use Rattle.rules.proofs.Ranges.{ranges_of_all}
use Rattle.rules.proofs.laws.ranges_of_all.Goals as goal

pub returns : goal.returns
returns c = ranges_of_all
