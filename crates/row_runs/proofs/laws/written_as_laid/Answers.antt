use Rattle.row_runs.proofs.Backs.{unswapped}
use Rattle.row_runs.proofs.Turns.{unturned}
use Rattle.row_runs.proofs.laws.written_as_laid.Goals as goal

pub returns-clause-moved : goal.returns-clause-moved
returns-clause-moved c = unswapped 0

pub returns-clause-turned : goal.returns-clause-turned
returns-clause-turned c = unturned
