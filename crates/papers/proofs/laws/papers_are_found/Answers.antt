use Rattle.papers.proofs.Found.{papers_are_found}
use Rattle.papers.proofs.laws.papers_are_found.Goals as goal

pub returns : goal.returns
returns c = papers_are_found
