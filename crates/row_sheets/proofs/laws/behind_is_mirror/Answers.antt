use Rattle.row_sheets.proofs.Behind.{behind_is_mirror}
use Rattle.row_sheets.proofs.laws.behind_is_mirror.Goals as goal

pub returns : goal.returns
returns c = behind_is_mirror
