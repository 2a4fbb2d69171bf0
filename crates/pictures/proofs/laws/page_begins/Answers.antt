use Rattle.pictures.proofs.Begins.{page_begins}
use Rattle.pictures.proofs.laws.page_begins.Goals as goal

pub returns : goal.returns
returns c = page_begins
