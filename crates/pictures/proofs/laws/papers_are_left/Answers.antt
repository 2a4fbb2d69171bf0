use Rattle.pictures.proofs.NamedPapers.{papers_are_left}
use Rattle.pictures.proofs.laws.papers_are_left.Goals as goal

pub returns : goal.returns
returns c = papers_are_left
