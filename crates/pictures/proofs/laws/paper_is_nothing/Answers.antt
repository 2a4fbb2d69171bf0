use Rattle.pictures.proofs.NamedPapers.{paper_is_nothing}
use Rattle.pictures.proofs.laws.paper_is_nothing.Goals as goal

pub returns : goal.returns
returns c = paper_is_nothing
