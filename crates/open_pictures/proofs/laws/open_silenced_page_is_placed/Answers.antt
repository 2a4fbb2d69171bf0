use Rattle.open_pictures.proofs.Silenced.{open_silenced_page_is_placed}
use Rattle.open_pictures.proofs.laws.open_silenced_page_is_placed.Goals as goal

pub returns : goal.returns
returns c = open_silenced_page_is_placed
