use Rattle.pictures.proofs.TwoMadeRuns.{two_made_runs_are_shown}
use Rattle.pictures.proofs.laws.two_made_runs_are_shown.Goals as goal

pub returns : goal.returns
returns c = two_made_runs_are_shown
