use Rattle.std.proofs.Common.{◌≡◌}
use Rattle.layouts.specs.Grids.{best_of}
use Rattle.layouts.proofs.best.best_of.Given as goal

abbrev pub invariant-loop-k : goal.invariant-loop-k
invariant-loop-k l = l.best ≡ best_of l.page l.room l.turned l.n l.k
