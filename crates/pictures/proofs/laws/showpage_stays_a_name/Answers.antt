use Rattle.pictures.proofs.Lines.{showpage_stays_a_name}
use Rattle.pictures.proofs.laws.showpage_stays_a_name.Goals as goal

pub returns : goal.returns
returns c = showpage_stays_a_name
