use Rattle.open_pictures.proofs.OwnShowpage.{open_own_showpage_is_shown}
use Rattle.open_pictures.proofs.laws.open_own_showpage_is_shown.Goals as goal

pub returns : goal.returns
returns c = open_own_showpage_is_shown
