use Rattle.rules.proofs.RangeTexts.{ranges_are_read}
use Rattle.rules.proofs.laws.ranges_are_read.Goals as goal

pub returns : goal.returns
returns c = ranges_are_read
