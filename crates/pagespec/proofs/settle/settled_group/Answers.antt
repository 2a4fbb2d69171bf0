use Rattle.pagespec.proofs.Settling.{settled_more}
use Rattle.pagespec.proofs.settle.settled_group.Goals as goal

pub loop-item-preserved : goal.loop-item-preserved
loop-item-preserved c =
    settled_more _ _ c.args.parsed.now c.loop-item.item-index c.item-item.result c.settled_item.result c.loop-item.invariant c.in_ok-push.ensures.items c.settled_item.ensures
    c.item-item.is c.loop-item-test.true
