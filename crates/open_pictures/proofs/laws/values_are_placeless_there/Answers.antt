use Rattle.open_pictures.proofs.Values.{values_are_placeless_there}
use Rattle.open_pictures.proofs.laws.values_are_placeless_there.Goals as goal

pub returns : goal.returns
returns c = values_are_placeless_there
