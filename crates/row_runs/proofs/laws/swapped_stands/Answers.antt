use Rattle.row_runs.proofs.Backs.{fitted_in_points, swapped_stands}
use Rattle.row_runs.proofs.laws.swapped_stands.Goals as goal

pub returns-clause-stands : goal.returns-clause-stands
returns-clause-stands c = swapped_stands

pub returns-clause-points : goal.returns-clause-points
returns-clause-points c = fitted_in_points
