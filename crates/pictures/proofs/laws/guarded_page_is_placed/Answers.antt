use Rattle.pictures.proofs.GuardedPlaced.{guarded_page_is_placed}
use Rattle.pictures.proofs.laws.guarded_page_is_placed.Goals as goal

pub returns : goal.returns
returns c = guarded_page_is_placed
