use Rattle.row_sheets.proofs.AtRest.{no_creep_is_plain}
use Rattle.row_sheets.proofs.laws.no_creep_is_plain.Goals as goal

pub returns : goal.returns
returns c = no_creep_is_plain
