use Rattle.std.proofs.Common.{arith}
use Rattle.imposer.proofs.RoomForAll.{all_few, has_room, has_capacity, is_fresh}
use Rattle.imposer.proofs.rooms.ready_for.Goals as goal

pub overflow_cast-puts : goal.overflow_cast-puts
overflow_cast-puts c = let few = all_few c.args.plan.now c.args.preparers c.sheets-sheets.ensures.sound.few_sheets c.requires.preparers.1 in omega (arith, few, c.most_puts_in_all-puts.ensures)

pub returns-clause-room : goal.returns-clause-room
returns-clause-room c = has_room c.by_right.result _ _ c.by_right.ensures.capacity c.by_right.ensures.pass (omega arith)

pub returns-clause-sheets : goal.returns-clause-sheets
returns-clause-sheets c = has_capacity c.by_right.result _ _ c.by_right.ensures.capacity (omega arith)

pub returns-clause-pass : goal.returns-clause-pass
returns-clause-pass c = is_fresh c.by_right.result c.by_right.ensures.pass
