use Rattle.std.proofs.Common.{arith, ap, length, ◌∙◌}
use Rattle.std.proofs.lemmas.Nat.{one_shl}
use Rattle.gather_table.specs.Plain.{PlainView}
use Rattle.gather_table.proofs.Blanks.{sheets_of}
use Rattle.gather_table.proofs.Stored.{group_low, row_in, plain_shut, shut_state, close_told}
use Rattle.gather_table.proofs.plain.PlainTable.close_group.Goals as goal

pub overflow_shl-bit : goal.overflow_shl-bit
overflow_shl-bit c = group_low _ _ _ c.self.view_is c.self.invariant _ _ c.requires.group.group

pub invariant_of-self : goal.invariant_of-self
invariant_of-self c =
    let low = group_low _ _ _ c.self.view_is c.self.invariant _ _ c.requires.group.group in
    plain_shut _ _ _ c.self.view_is c.self.invariant _ c.requires.group.group.sheet _ _ _ c.requires.group c.index-closed.ensures (one_shl c.args.group 64 low)

pub returns-clause-reply : goal.returns-clause-reply
returns-clause-reply c =
    let low = group_low _ _ _ c.self.view_is c.self.invariant _ _ c.requires.group.group in
    close_told _ _ _ c.self.view_is c.self.invariant _ c.requires.group.group.sheet _ _ _ c.requires.group c.index-closed.ensures (one_shl c.args.group 64 low)
    _ _ _ _ _ c.slots.ensures.value (c.from.ensures ∙ c.group_count.ensures) c.full_bits-full.ensures c.reply_by.ensures c.closing_by.ensures

pub returns-clause-state : goal.returns-clause-state
returns-clause-state c =
    let low = group_low _ _ _ c.self.view_is c.self.invariant _ _ c.requires.group.group in
    shut_state _ _ _ c.self.view_is c.self.invariant _ c.requires.group.group.sheet _ _ _ c.requires.group c.index-closed.ensures (one_shl c.args.group 64 low)

pub slots-requires : goal.slots-requires
slots-requires c = omega (arith, c.requires.group.group.sheet, ap (λ (t : PlainView). length t.layout.sheets) c.self.view_is, sheets_of c.self.inside.plan.now)

pub index-closed-requires : goal.index-closed-requires
index-closed-requires c = let row = (row_in _ _ _ c.self.view_is c.self.invariant _ c.requires.group.group.sheet).1 in omega (arith, row)

pub index_mut-requires : goal.index_mut-requires
index_mut-requires c = let row = (row_in _ _ _ c.self.view_is c.self.invariant _ c.requires.group.group.sheet).1 in omega (arith, row)

pub returns-clause-layout : goal.returns-clause-layout
returns-clause-layout c = ap (λ (t : PlainView). t.layout) c.self.view_is
