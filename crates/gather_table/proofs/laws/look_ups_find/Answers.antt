use Rattle.gather_table.proofs.Calls.{look_ups_find}
use Rattle.gather_table.proofs.laws.look_ups_find.Goals as goal

pub returns : goal.returns
returns c = look_ups_find
