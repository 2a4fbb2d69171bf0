use Rattle.row_runs.proofs.Fit.{asked_stand_in_places}
use Rattle.row_runs.proofs.laws.asked_stand_in_places.Goals as goal

pub returns : goal.returns
returns c = asked_stand_in_places
