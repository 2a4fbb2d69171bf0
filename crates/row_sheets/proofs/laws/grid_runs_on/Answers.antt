use Rattle.row_sheets.proofs.Runs.{grid_runs_on}
use Rattle.row_sheets.proofs.laws.grid_runs_on.Goals as goal

pub returns : goal.returns
returns c = grid_runs_on
