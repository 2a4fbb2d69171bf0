use Rattle.rows.proofs.Sewn.{signed_is_read}
use Rattle.rows.proofs.laws.signed_is_read.Goals as goal

pub returns : goal.returns
returns c = signed_is_read
