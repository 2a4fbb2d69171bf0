use Rattle.layouts.proofs.Folds.{mirror}
use Rattle.layouts.proofs.laws.right_to_left_is_mirror.Goals as goal

pub returns : goal.returns
returns c = mirror
