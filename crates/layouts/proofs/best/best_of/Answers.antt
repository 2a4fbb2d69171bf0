use Rattle.layouts.proofs.BestGrid.{next_best}
use Rattle.layouts.proofs.best.best_of.Goals as goal

pub loop-k-preserved : goal.loop-k-preserved
loop-k-preserved c =
    next_best c.args.page.now c.args.room.now c.args.turned c.args.n c.loop-k.k c.loop-k.best c.of.result c.better-best.result c.better-best.ensures c.loop-k.invariant c.of.ensures
