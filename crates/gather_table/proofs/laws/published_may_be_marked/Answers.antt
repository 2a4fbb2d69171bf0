use Rattle.gather_table.proofs.Calls.{published_may_be_marked}
use Rattle.gather_table.proofs.laws.published_may_be_marked.Goals as goal

pub returns : goal.returns
returns c = published_may_be_marked
