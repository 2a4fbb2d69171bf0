use Rattle.lengths.proofs.ReadAgain.{scale_read}
use Rattle.lengths.proofs.laws.printed_scale_is_read.Goals as goal

pub returns : goal.returns
returns c = scale_read
