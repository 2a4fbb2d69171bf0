use Rattle.std.proofs.Common.{refl}
use Rattle.row_sheets.proofs.laws.booklet_is_grid.Goals as goal

pub returns : goal.returns
returns c = λ f row. refl
