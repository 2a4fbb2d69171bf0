use Rattle.row_runs.proofs.ReadInOrder.{asked_is_read}
use Rattle.row_runs.proofs.laws.asked_is_read.Goals as goal

pub returns : goal.returns
returns c = asked_is_read
