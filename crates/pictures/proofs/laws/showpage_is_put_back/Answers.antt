use Rattle.pictures.proofs.Silenced.{showpage_is_put_back}
use Rattle.pictures.proofs.laws.showpage_is_put_back.Goals as goal

pub returns : goal.returns
returns c = showpage_is_put_back
