use Rattle.pictures.proofs.TwoMadeRuns.{two_runs_are_shown}
use Rattle.pictures.proofs.laws.two_runs_are_shown.Goals as goal

pub returns : goal.returns
returns c = two_runs_are_shown
