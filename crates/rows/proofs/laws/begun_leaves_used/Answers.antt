use Rattle.rows.proofs.BegunRows.{begun_leaves_used}
use Rattle.rows.proofs.laws.begun_leaves_used.Goals as goal

pub returns : goal.returns
returns c = begun_leaves_used
