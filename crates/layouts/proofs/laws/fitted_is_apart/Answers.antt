use Rattle.layouts.proofs.Fitting.{fitted_is_apart}
use Rattle.layouts.proofs.laws.fitted_is_apart.Goals as goal

pub returns : goal.returns
returns c = fitted_is_apart
