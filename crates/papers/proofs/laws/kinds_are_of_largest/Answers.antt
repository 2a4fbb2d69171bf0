use Rattle.papers.proofs.OfLargest.{kinds_are_of_largest}
use Rattle.papers.proofs.laws.kinds_are_of_largest.Goals as goal

pub returns : goal.returns
returns c = kinds_are_of_largest
