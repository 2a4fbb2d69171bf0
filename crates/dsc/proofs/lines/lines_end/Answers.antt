use Rattle.std.proofs.Common.{rules, arith, refl, ◌<◌, length}
use Rattle.dsc.proofs.LineLengths.{lines_more}
use Rattle.dsc.proofs.lines.lines_end.Goals as goal

pub loop-i-preserved : goal.loop-i-preserved
loop-i-preserved c = record {
  placed = omega (arith, c.loop-i.invariant.placed, c.split_at.ensures.back_len);
  so_far =
      let some : 0 < length c.loop-i.rest.now = search rules in
      lines_more _ _ _ _ c.loop-i.rest.now _ _ _ (omega arith) some c.line_end_after-line.ensures.value c.split_at.ensures.back refl c.loop-i.invariant.so_far;
}
