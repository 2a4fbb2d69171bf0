use Rattle.std.proofs.Common.{◌≡◌}
use Rattle.std.specs.Prelude.{flat_map}
use Rattle.std.specs.List.{range_with_len}
use Rattle.dressing.specs.Ruled.{row_lines}
use Rattle.dressing.proofs.ruled.note_lines.Given as goal

abbrev pub invariant-loop-row : goal.invariant-loop-row
invariant-loop-row l = l.lines.items ≡ flat_map (row_lines l.room l.grid) (range_with_len 0 l.row)
