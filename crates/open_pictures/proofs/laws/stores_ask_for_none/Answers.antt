use Rattle.open_pictures.proofs.Stores.{stores_ask_for_none}
use Rattle.open_pictures.proofs.laws.stores_ask_for_none.Goals as goal

pub returns : goal.returns
returns c = stores_ask_for_none
