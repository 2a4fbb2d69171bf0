use Rattle.std.proofs.Common.{◌≡◌, ◌++◌, take}
use Rattle.preview.specs.Naming.{numbered}
use Rattle.preview.specs.Ways.{way_line}
use Rattle.preview.proofs.ways.append_lines.Given as goal

abbrev pub invariant-loop-number : goal.invariant-loop-number
invariant-loop-number l = l.out.items ≡ l.initial.out.items ++ numbered way_line 0 (take l.number l.ways)
