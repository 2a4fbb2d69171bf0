use Rattle.rules.proofs.Rows.{sheets_of_all}
use Rattle.rules.proofs.laws.sheets_of_all.Goals as goal

pub returns : goal.returns
returns c = sheets_of_all
