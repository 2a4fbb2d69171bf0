use Rattle.layouts.proofs.BestGrid.{best_is_best}
use Rattle.layouts.proofs.laws.best_is_best.Goals as goal

pub returns : goal.returns
returns c = best_is_best
