use Rattle.std.proofs.Common.{rules}
use Rattle.world.proofs.buffered.write_all.Goals as goal
use Rattle.sheet_writer.proofs.Appending.{appends_more}

pub loop-written-preserved : goal.loop-written-preserved
loop-written-preserved g c = record {
  within = search rules;
  taken = appends_more _ _ _ _ _ _ c.loop-written.invariant.taken c.in-Ok.ensures.written;
  steady = search rules;
}
