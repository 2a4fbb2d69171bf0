use Rattle.pictures.proofs.Lines.{outer_is_kept}
use Rattle.pictures.proofs.laws.outer_is_kept.Goals as goal

pub returns : goal.returns
returns c = outer_is_kept
