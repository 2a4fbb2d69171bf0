use Rattle.layouts.proofs.Backs.{back_inside}
use Rattle.layouts.proofs.laws.back_is_inside.Goals as goal

pub returns : goal.returns
returns c = back_inside
