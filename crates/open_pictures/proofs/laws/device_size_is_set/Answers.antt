use Rattle.open_pictures.proofs.Sizing.{size_is_set}
use Rattle.open_pictures.proofs.laws.device_size_is_set.Goals as goal

pub returns : goal.returns
returns c = size_is_set
