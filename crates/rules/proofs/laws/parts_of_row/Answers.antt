use Rattle.rules.proofs.Rows.{parts_of_row}
use Rattle.rules.proofs.laws.parts_of_row.Goals as goal

pub returns : goal.returns
returns c = parts_of_row
