use Rattle.layouts.proofs.Fitting.{fitted_is_in_order}
use Rattle.layouts.proofs.laws.fitted_is_in_order.Goals as goal

pub returns : goal.returns
returns c = fitted_is_in_order
