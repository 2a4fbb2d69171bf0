use Rattle.pictures.proofs.OwnShowpage.{own_showpage_is_shown}
use Rattle.pictures.proofs.laws.own_showpage_is_shown.Goals as goal

pub returns : goal.returns
returns c = own_showpage_is_shown
