use Rattle.pictures.proofs.Lines.{device_is_handed}
use Rattle.pictures.proofs.laws.device_is_handed.Goals as goal

pub returns : goal.returns
returns c = device_is_handed
