use Rattle.pictures.proofs.OwnShowpage.{own_page_is_placed}
use Rattle.pictures.proofs.laws.own_page_is_placed.Goals as goal

pub returns : goal.returns
returns c = own_page_is_placed
