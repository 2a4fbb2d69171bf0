use Rattle.std.proofs.Common.{◌≡◌, length, take}
use Rattle.row_runs.proofs.TrailerLines.{NoneLater}
use Rattle.row_runs.proofs.declared_pages.last_lines.Given as goal

abbrev pub invariant-loop-at : goal.invariant-loop-at
invariant-loop-at l = record {
  front : l.front ≡ take (length l.front) l.text;
  none : NoneLater l.text l.front;
}

abbrev pub decreases-loop-at : goal.decreases-loop-at
decreases-loop-at l = length l.front
