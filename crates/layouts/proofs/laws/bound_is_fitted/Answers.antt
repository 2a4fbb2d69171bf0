use Rattle.layouts.proofs.Fitting.{bound_is_fitted}
use Rattle.layouts.proofs.laws.bound_is_fitted.Goals as goal

pub returns : goal.returns
returns c = bound_is_fitted
