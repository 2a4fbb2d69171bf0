use Rattle.layouts.proofs.Fitting.{fitted_stands}
use Rattle.layouts.proofs.laws.fitted_stands.Goals as goal

pub returns : goal.returns
returns c = fitted_stands
