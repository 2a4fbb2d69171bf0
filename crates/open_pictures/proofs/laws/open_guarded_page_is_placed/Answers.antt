use Rattle.open_pictures.proofs.GuardedPlaced.{open_guarded_page_is_placed}
use Rattle.open_pictures.proofs.laws.open_guarded_page_is_placed.Goals as goal

pub returns : goal.returns
returns c = open_guarded_page_is_placed
