use Rattle.std.proofs.Common.{arith, rules}
use Rattle.gather_table.proofs.Stored.{in_groups, word_at, looked_in}
use Rattle.gather_table.proofs.plain.PlainTable.missing_slots.Goals as goal

pub overflow_add-index : goal.overflow_add-index
overflow_add-index c =
    let w = (word_at _ _ _ c.self.view_is c.self.invariant _ c.requires.sheet _ c.index.ensures _ (in_groups _ _ _ c.self.view_is c.self.invariant _ c.requires.sheet _ c.requires.group)).1 in
    search rules

pub index-requires-2 : goal.index-requires-2
index-requires-2 c =
    let w = (word_at _ _ _ c.self.view_is c.self.invariant _ c.requires.sheet _ c.index.ensures _ (in_groups _ _ _ c.self.view_is c.self.invariant _ c.requires.sheet _ c.requires.group)).0 in
    omega arith

pub overflow_sub-result : goal.overflow_sub-result
overflow_sub-result c =
    (looked_in _ _ _ c.self.view_is c.self.invariant _ c.requires.sheet _ c.index.ensures _ _ _ _ _ c.requires.group c.slots.ensures.value c.group_size.ensures c.full_bits-full.ensures c.index-2.ensures).0

pub returns : goal.returns
returns c =
    (looked_in _ _ _ c.self.view_is c.self.invariant _ c.requires.sheet _ c.index.ensures _ _ _ _ _ c.requires.group c.slots.ensures.value c.group_size.ensures c.full_bits-full.ensures c.index-2.ensures).1
