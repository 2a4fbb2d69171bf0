use Rattle.gather_table.proofs.Groups.{narrow_is_one_set}
use Rattle.gather_table.proofs.laws.narrow_is_one_set.Goals as goal

pub returns : goal.returns
returns c = narrow_is_one_set
