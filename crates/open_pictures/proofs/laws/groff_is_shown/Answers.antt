use Rattle.open_pictures.proofs.Groff.{groff_is_shown}
use Rattle.open_pictures.proofs.laws.groff_is_shown.Goals as goal

pub returns : goal.returns
returns c = groff_is_shown
