use Rattle.pictures.proofs.Lines.{device_is_left}
use Rattle.pictures.proofs.laws.device_is_left.Goals as goal

pub returns : goal.returns
returns c = device_is_left
