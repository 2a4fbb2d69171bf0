use Rattle.pictures.proofs.Silenced.{silenced_page_is_placed}
use Rattle.pictures.proofs.laws.silenced_page_is_placed.Goals as goal

pub returns : goal.returns
returns c = silenced_page_is_placed
