use Rattle.std.proofs.Common.{rules}
use Rattle.layouts.proofs.LaidOut.{some_cells}
use Rattle.layouts.proofs.grid.Grid.size.Goals as goal

pub returns-clause-some : goal.returns-clause-some
returns-clause-some c = search (rules, some_cells)
