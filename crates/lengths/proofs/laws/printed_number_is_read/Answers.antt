use Rattle.lengths.proofs.ReadAgain.{number_read}
use Rattle.lengths.proofs.laws.printed_number_is_read.Goals as goal

pub returns : goal.returns
returns c = number_read
