use Rattle.sheet_plan.proofs.Exact.{places_exact}
use Rattle.sheet_plan.proofs.laws.places_are_exact.Goals as goal

pub returns : goal.returns
returns c = places_exact
