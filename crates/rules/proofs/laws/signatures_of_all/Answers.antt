use Rattle.rules.proofs.Rows.{signatures_of_all}
use Rattle.rules.proofs.laws.signatures_of_all.Goals as goal

pub returns : goal.returns
returns c = signatures_of_all
