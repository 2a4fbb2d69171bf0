use Rattle.pagespec.proofs.ParsedItems.{item_there}
use Rattle.pagespec.proofs.ItemStuck.{item_stuck, item_ended}
use Rattle.pagespec.proofs.parsed.read_item.Goals as goal

pub returns-in-Some : goal.returns-in-Some
returns-in-Some c = (
  item_there c.args.bytes.now c.split_minus-from_end.result.1.now c.in-Some.after.now _ _ _ _ c.split_minus-from_end.ensures.minus c.split_minus-from_end.ensures.rest c.in-Some.ensures.0 c.in-Some.ensures.1 c.in-Some.ensures.2 c.read_modifiers-modifiers.ensures.read,
  item_ended c.args.bytes.now c.split_minus-from_end.result.1.now c.in-Some.after.now _ _ c.split_minus-from_end.ensures.rest c.in-Some.ensures.0 c.in-Some.ensures.2 c.read_modifiers-modifiers.ensures.stuck,
)

pub returns-in-None : goal.returns-in-None
returns-in-None c = item_stuck c.args.bytes.now c.split_minus-from_end.result.1.now c.split_minus-from_end.ensures.rest c.in-None.ensures
