use Rattle.pictures.proofs.Lines.{save_saves}
use Rattle.pictures.proofs.laws.save_saves.Goals as goal

pub returns : goal.returns
returns c = save_saves
