use Rattle.gather_table.proofs.Calls.{own_calls_are_kept}
use Rattle.gather_table.proofs.laws.own_calls_are_kept.Goals as goal

pub returns : goal.returns
returns c = own_calls_are_kept
