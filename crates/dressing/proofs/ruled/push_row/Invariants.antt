use Rattle.std.proofs.Common.{◌≡◌, ◌++◌}
use Rattle.std.specs.Prelude.{map}
use Rattle.std.specs.List.{range_with_len}
use Rattle.dressing.specs.Ruled.{note_line}
use Rattle.dressing.proofs.ruled.push_row.Given as goal

abbrev pub invariant-loop-before : goal.invariant-loop-before
invariant-loop-before l = l.lines.items ≡ l.initial.lines.items ++ map (note_line l.room l.grid l.row) (range_with_len 1 l.before)
