use Rattle.gather_table.proofs.GroupLooks.{looked_may_be_closed}
use Rattle.gather_table.proofs.laws.looked_may_be_closed.Goals as goal

pub returns : goal.returns
returns c = looked_may_be_closed
