use Rattle.std.proofs.Common.{◌∙◌, arith}
use Rattle.world.proofs.Reading.{filled_more}
use Rattle.world.proofs.front.read_front.Goals as goal

pub loop-filled-preserved : goal.loop-filled-preserved
loop-filled-preserved g c =
    let before = c.loop-filled.invariant in
    let read = c.in_ok-count.ensures in record {
      within = read.within;
      steady = read.counted ∙ before.steady;
      moved = filled_more 0 _ _ _ c.loop-filled.buffer c.fill_after.new.buffer c.loop-filled.filled c.in_ok-count.count (omega arith) before.within c.fill_after.ensures.front before.moved read.moved.0;
    }
