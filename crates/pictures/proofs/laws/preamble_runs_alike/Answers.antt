use Rattle.pictures.proofs.Kept.{preamble_runs_alike}
use Rattle.pictures.proofs.laws.preamble_runs_alike.Goals as goal

pub returns : goal.returns
returns c = preamble_runs_alike
