use Rattle.rules.specs.Specification.{item_text}
use Rattle.pagespec.specs.Items.{item_of}
use Rattle.pagespec.proofs.Joining.{one_more}
use Rattle.pagespec.proofs.write.append_more_items.Goals as goal

pub loop-item-preserved : goal.loop-item-preserved
loop-item-preserved c =
    one_more 43 item_of item_text c.args.items.now c.loop-item.item-index c.item-item.result c.args.out.now.items _ _ _ c.loop-item.invariant
    c.in_ok-append_bytes.ensures c.in_ok-append_item.ensures c.item-item.is c.loop-item-test.true
