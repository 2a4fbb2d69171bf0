use Rattle.std.proofs.Common.{arith, ◌+◌}
use Rattle.sheet_plan.proofs.Access.{block_more, block_part}
use Rattle.row_sheets.proofs.by_spec.slots_per_block.Goals as goal

pub overflow_add-slots : goal.overflow_add-slots
overflow_add-slots c =
    let more = block_more c.args.groups.now c.loop-group.group-index c.len.result c.group-item.result c.loop-group-test.true c.group-item.is c.len.ensures in
    let part = block_part c.args.groups.now (c.loop-group.group-index + 1) in
    omega arith

pub loop-group-preserved : goal.loop-group-preserved
loop-group-preserved c =
    let more = block_more c.args.groups.now c.loop-group.group-index c.len.result c.group-item.result c.loop-group-test.true c.group-item.is c.len.ensures in
    omega arith
