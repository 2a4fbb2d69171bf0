-- How many workers a run has.
use Rattle.std.specs.Prelude.{◌≤◌}
use Rattle.imposer.specs.declared.worker_counts.Workers.{Workers}

-- from 1 to 16 of each
pub record AreWorkers (w : Workers) : Type 0 where
  pub a_preparer : 1 ≤ w.preparers
  pub few_preparers : w.preparers ≤ 16
  pub an_imposer : 1 ≤ w.imposers
  pub few_imposers : w.imposers ≤ 16
