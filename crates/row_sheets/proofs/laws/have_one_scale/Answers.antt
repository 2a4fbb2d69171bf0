use Rattle.row_sheets.proofs.OneScale.{have_one_scale}
use Rattle.row_sheets.proofs.laws.have_one_scale.Goals as goal

pub returns : goal.returns
returns c = have_one_scale
