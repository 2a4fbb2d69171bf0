use Rattle.dressing.proofs.AtFoot.{numbers_are_at_foot}
use Rattle.dressing.proofs.laws.numbers_are_at_foot.Goals as goal

pub returns : goal.returns
returns c = numbers_are_at_foot
