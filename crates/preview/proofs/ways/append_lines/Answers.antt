use Rattle.std.proofs.Common.{arith}
use Rattle.preview.specs.Ways.{way_line}
use Rattle.preview.proofs.Numbered.{one_more}
use Rattle.preview.proofs.ways.append_lines.Goals as goal

pub loop-number-preserved : goal.loop-number-preserved
loop-number-preserved c =
    one_more way_line c.args.out.now.items _ _ 0 c.loop-number.number c.loop-number.number c.args.ways.now _ c.way_at.ensures (omega arith)
    c.loop-number.invariant c.in_ok-append_way_line.ensures
