use Rattle.pictures.proofs.Lines.{page_is_left}
use Rattle.pictures.proofs.laws.page_is_left.Goals as goal

pub returns : goal.returns
returns c = page_is_left
