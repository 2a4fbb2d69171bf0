use Rattle.imposed_again.proofs.Again.{sheets_shut}
use Rattle.imposed_again.proofs.laws.sheets_shut.Goals as goal

pub returns : goal.returns
returns c = sheets_shut
