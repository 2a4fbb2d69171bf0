use Rattle.pictures.proofs.Lines.{loaded_showpage}
use Rattle.pictures.proofs.laws.loaded_showpage.Goals as goal

pub returns : goal.returns
returns c = loaded_showpage
