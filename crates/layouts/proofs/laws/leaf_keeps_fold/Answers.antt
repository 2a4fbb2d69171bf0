use Rattle.layouts.proofs.Folds.{leaf_keeps_fold}
use Rattle.layouts.proofs.laws.leaf_keeps_fold.Goals as goal

pub returns : goal.returns
returns c = leaf_keeps_fold
