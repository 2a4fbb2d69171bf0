use Rattle.row_sheets.proofs.Leaves.{creep_keeps_sides}
use Rattle.row_sheets.proofs.laws.creep_keeps_sides.Goals as goal

pub returns : goal.returns
returns c = creep_keeps_sides
