use Rattle.std.proofs.Common.{◌∙◌}
use Rattle.gather_table.proofs.Stored.{looked_wide}
use Rattle.gather_table.proofs.plain.PlainTable.open_groups.Goals as goal

pub overflow_sub-result : goal.overflow_sub-result
overflow_sub-result c =
    (looked_wide _ _ _ c.self.view_is c.self.invariant _ c.requires.sheet _ _ _ _ c.requires.wide c.slots.ensures.value (c.from.ensures ∙ c.group_count.ensures) c.full_bits-full.ensures c.index.ensures).0

pub returns : goal.returns
returns c =
    (looked_wide _ _ _ c.self.view_is c.self.invariant _ c.requires.sheet _ _ _ _ c.requires.wide c.slots.ensures.value (c.from.ensures ∙ c.group_count.ensures) c.full_bits-full.ensures c.index.ensures).1
