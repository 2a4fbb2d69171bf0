use Rattle.gather_table.proofs.Calls.{markable_stays}
use Rattle.gather_table.proofs.laws.markable_stays.Goals as goal

pub returns : goal.returns
returns c = markable_stays
