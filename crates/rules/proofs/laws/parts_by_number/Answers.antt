use Rattle.rules.proofs.Rows.{parts_by_number}
use Rattle.rules.proofs.laws.parts_by_number.Goals as goal

pub returns : goal.returns
returns c = parts_by_number
