use Rattle.open_pictures.proofs.Placed.{open_page_is_placed}
use Rattle.open_pictures.proofs.laws.open_page_is_placed.Goals as goal

pub returns : goal.returns
returns c = open_page_is_placed
