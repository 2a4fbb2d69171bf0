use Rattle.papers.proofs.CountedAsOne.{nothing_is_cut}
use Rattle.papers.proofs.laws.nothing_is_cut.Goals as goal

pub returns : goal.returns
returns c = nothing_is_cut
