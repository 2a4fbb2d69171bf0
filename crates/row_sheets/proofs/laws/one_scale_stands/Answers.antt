use Rattle.row_sheets.proofs.OneScale.{one_scale_stands}
use Rattle.row_sheets.proofs.laws.one_scale_stands.Goals as goal

pub returns : goal.returns
returns c = one_scale_stands
