use Rattle.imposed_again.proofs.Texts.{unit_stays}
use Rattle.imposed_again.proofs.laws.unit_stays.Goals as goal

pub returns : goal.returns
returns c = unit_stays
