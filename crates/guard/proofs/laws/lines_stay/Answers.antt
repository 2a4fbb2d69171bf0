use Rattle.guard.proofs.Guarding.{lines_stay}
use Rattle.guard.proofs.laws.lines_stay.Goals as goal

pub returns : goal.returns
returns c = lines_stay
