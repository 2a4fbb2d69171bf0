use Rattle.rules.proofs.Folded.{row_is_read}
use Rattle.rules.proofs.laws.row_is_read.Goals as goal

pub returns : goal.returns
returns c = row_is_read
