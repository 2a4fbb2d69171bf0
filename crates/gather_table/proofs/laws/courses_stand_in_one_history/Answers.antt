use Rattle.gather_table.proofs.Calls.{courses_stand}
use Rattle.gather_table.proofs.laws.courses_stand_in_one_history.Goals as goal

pub returns : goal.returns
returns c = courses_stand
