use Rattle.papers.proofs.SetSizes.{size_is_set}
use Rattle.papers.proofs.laws.size_is_set.Goals as goal

pub returns : goal.returns
returns c = size_is_set
