use Rattle.open_pictures.proofs.Stores.{stores_are_blind}
use Rattle.open_pictures.proofs.laws.stores_are_blind.Goals as goal

pub returns : goal.returns
returns c = stores_are_blind
