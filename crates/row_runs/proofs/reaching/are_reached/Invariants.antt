use Rattle.std.proofs.Common.{◌≡◌, take, true}
use Rattle.row_runs.specs.Turning.{turn_on}
use Rattle.row_runs.specs.Reaching.{are_reached}
use Rattle.row_runs.proofs.reaching.are_reached.Given as goal

abbrev pub invariant-loop-sheet : goal.invariant-loop-sheet
invariant-loop-sheet l = are_reached (turn_on l.turns) l.swap (take l.sheet l.sheets) ≡ true
