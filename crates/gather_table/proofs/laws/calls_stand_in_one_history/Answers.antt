use Rattle.gather_table.proofs.Calls.{calls_stand}
use Rattle.gather_table.proofs.laws.calls_stand_in_one_history.Goals as goal

pub returns : goal.returns
returns c = calls_stand
