use Rattle.layouts.proofs.Fitting.{arranged_is_fitted}
use Rattle.layouts.proofs.laws.arranged_is_fitted.Goals as goal

pub returns : goal.returns
returns c = arranged_is_fitted
