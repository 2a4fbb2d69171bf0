use Rattle.row_sheets.proofs.Fewest.{fewest_hold}
use Rattle.row_sheets.proofs.laws.fewest_hold.Goals as goal

pub returns : goal.returns
returns c = fewest_hold
