use Rattle.row_sheets.proofs.Shown.{row_is_shown}
use Rattle.row_sheets.proofs.laws.row_is_shown.Goals as goal

pub returns : goal.returns
returns c = row_is_shown
