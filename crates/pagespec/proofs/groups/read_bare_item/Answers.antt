use Rattle.pagespec.proofs.GroupLoops.{bare_there, nil_told, some_told}
use Rattle.pagespec.proofs.ItemStuck.{bare_nothing, bare_ended}
use Rattle.pagespec.proofs.groups.read_bare_item.Goals as goal

pub returns-then-is_empty : goal.returns-then-is_empty
returns-then-is_empty c = bare_nothing c.args.bytes.now (nil_told _ _ c.is_empty.ensures c.if-is_empty.true)

pub returns-then-not-is_empty : goal.returns-then-not-is_empty
returns-then-not-is_empty c =
    bare_ended c.args.bytes.now _ _ _ _ c.split_minus-from_end.ensures.rest (some_told _ _ c.is_empty.ensures c.if-is_empty.false) (some_told _ _ c.is_empty-2.ensures c.if-not-is_empty.true)
    c.read_modifiers-modifiers.ensures.read c.read_modifiers-modifiers.ensures.stuck

pub returns : goal.returns
returns c =
    bare_there c.args.bytes.now _ _ _ _ c.split_minus-from_end.ensures.minus c.split_minus-from_end.ensures.rest (some_told _ _ c.is_empty.ensures c.if-is_empty.false)
    c.read_modifiers-modifiers.ensures.read (nil_told _ _ c.is_empty-2.ensures c.if-not-is_empty.false)
