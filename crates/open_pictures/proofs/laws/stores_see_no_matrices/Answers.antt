use Rattle.open_pictures.proofs.Stores.{stores_see_no_matrices}
use Rattle.open_pictures.proofs.laws.stores_see_no_matrices.Goals as goal

pub returns : goal.returns
returns c = stores_see_no_matrices
