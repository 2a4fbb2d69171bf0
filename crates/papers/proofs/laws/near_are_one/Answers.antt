use Rattle.papers.proofs.CountedAsOne.{near_are_one}
use Rattle.papers.proofs.laws.near_are_one.Goals as goal

pub returns : goal.returns
returns c = near_are_one
