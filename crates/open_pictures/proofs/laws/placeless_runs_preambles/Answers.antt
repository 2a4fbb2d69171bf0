use Rattle.open_pictures.proofs.Nowhere.{placeless_runs_preambles}
use Rattle.open_pictures.proofs.laws.placeless_runs_preambles.Goals as goal

pub returns : goal.returns
returns c = placeless_runs_preambles
