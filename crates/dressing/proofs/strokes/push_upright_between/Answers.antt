use Rattle.std.proofs.Common.{arith}
use Rattle.dressing.specs.Strokes.{upright_at}
use Rattle.dressing.proofs.Pairs.{one_pair}
use Rattle.dressing.proofs.strokes.push_upright_between.Goals as goal

pub loop-k-preserved : goal.loop-k-preserved
loop-k-preserved c = record {
  some = omega arith;
  pushed = one_pair (upright_at c.args.room.now c.args.parts) c.args.strokes.now.items _ _ c.loop-k.k c.loop-k.invariant.some c.loop-k.invariant.pushed c.in_ok-push_upright.ensures;
}
