use Rattle.imposed_again.proofs.Again.{makes_sheets}
use Rattle.imposed_again.proofs.laws.makes_sheets.Goals as goal

pub returns : goal.returns
returns c = makes_sheets
