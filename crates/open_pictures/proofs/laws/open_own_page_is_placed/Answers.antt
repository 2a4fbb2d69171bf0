use Rattle.open_pictures.proofs.OwnShowpage.{open_own_page_is_placed}
use Rattle.open_pictures.proofs.laws.open_own_page_is_placed.Goals as goal

pub returns : goal.returns
returns c = open_own_page_is_placed
