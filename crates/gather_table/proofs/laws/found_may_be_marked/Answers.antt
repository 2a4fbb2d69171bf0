use Rattle.gather_table.proofs.Calls.{found_may_be_marked}
use Rattle.gather_table.proofs.laws.found_may_be_marked.Goals as goal

pub returns : goal.returns
returns c = found_may_be_marked
