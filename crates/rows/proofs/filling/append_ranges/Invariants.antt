use Rattle.std.proofs.Common.{◌≡◌, ◌++◌}
use Rattle.std.specs.Prelude.{vec_capacity}
use Rattle.rows.specs.Found.{row_found}
use Rattle.rows.proofs.Walked.{bytes_left, row_left}
use Rattle.rows.proofs.filling.append_ranges.Given as goal

abbrev pub invariant-loop-left : goal.invariant-loop-left
invariant-loop-left l = (l.row.items ++ row_left l.pages l.left ≡ l.fn.row.items ++ row_found l.pages l.text)
    × (vec_capacity l.row ≡ vec_capacity l.fn.row)

abbrev pub decreases-loop-left : goal.decreases-loop-left
decreases-loop-left l = bytes_left l.left
