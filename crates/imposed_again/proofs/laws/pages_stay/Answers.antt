use Rattle.imposed_again.proofs.Splits.{pages_stay}
use Rattle.imposed_again.proofs.laws.pages_stay.Goals as goal

pub returns : goal.returns
returns c = pages_stay
