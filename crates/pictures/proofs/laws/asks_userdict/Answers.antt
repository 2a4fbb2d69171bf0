use Rattle.pictures.proofs.Asking.{asks_userdict_there}
use Rattle.pictures.proofs.laws.asks_userdict.Goals as goal

pub returns : goal.returns
returns c = asks_userdict_there
