use Rattle.std.proofs.Common.{◌≡◌, ◌-◌, ◌++◌, length, drop}
use Rattle.rules.specs.Rows.{odd_part}
use Rattle.rows.proofs.parts.every_other.Given as goal

abbrev pub invariant-loop-at : goal.invariant-loop-at
invariant-loop-at l = l.part.items ++ odd_part (drop l.at l.row) ≡ odd_part (drop l.fn.first l.row)

abbrev pub decreases-loop-at : goal.decreases-loop-at
decreases-loop-at l = length l.row - l.at
