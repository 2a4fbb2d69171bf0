use Rattle.gather_table.proofs.Calls.{complete_stays}
use Rattle.gather_table.proofs.laws.complete_stays.Goals as goal

pub returns : goal.returns
returns c = complete_stays
