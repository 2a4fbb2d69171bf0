use Rattle.std.proofs.Common.{arith, rules, ap, length, ◌/◌, ◌%◌}
use Rattle.std.proofs.lemmas.Nat.{one_shl}
use Rattle.gather_table.specs.Plain.{PlainView}
use Rattle.gather_table.proofs.Blanks.{sheets_of}
use Rattle.gather_table.proofs.Stored.{few_slots, in_row, row_in, word_at, plain_marked, marked_state, mark_told}
use Rattle.gather_table.proofs.plain.PlainTable.mark.Goals as goal

pub overflow_add-word : goal.overflow_add-word
overflow_add-word c =
    let k = in_row _ _ _ c.self.view_is c.self.invariant _ c.requires.sheet _ c.requires.slot in
    let w = (word_at _ _ _ c.self.view_is c.self.invariant _ c.requires.sheet _ c.index.ensures (c.args.slot / 64) (omega arith)).1 in
    search rules

pub index-marked-requires : goal.index-marked-requires
index-marked-requires c =
    let k = in_row _ _ _ c.self.view_is c.self.invariant _ c.requires.sheet _ c.requires.slot in
    let w = (word_at _ _ _ c.self.view_is c.self.invariant _ c.requires.sheet _ c.index.ensures (c.args.slot / 64) (omega arith)).0 in
    omega arith

pub index_mut-requires : goal.index_mut-requires
index_mut-requires c =
    let k = in_row _ _ _ c.self.view_is c.self.invariant _ c.requires.sheet _ c.requires.slot in
    let w = (word_at _ _ _ c.self.view_is c.self.invariant _ c.requires.sheet _ c.index.ensures (c.args.slot / 64) (omega arith)).0 in
    omega arith

pub invariant_of-self : goal.invariant_of-self
invariant_of-self c =
    plain_marked _ _ _ c.self.view_is c.self.invariant _ c.requires.sheet _ c.index.ensures _ _ _ c.requires.slot c.index-marked.ensures (one_shl (c.args.slot % 64) 64 (omega arith))

pub returns-clause-reply : goal.returns-clause-reply
returns-clause-reply c =
    mark_told _ _ _ c.self.view_is c.self.invariant _ c.requires.sheet _ c.index.ensures _ _ _ c.requires.slot c.index-marked.ensures (one_shl (c.args.slot % 64) 64 (omega arith))
    _ _ _ _ _ c.slots-slots.ensures.value c.group_size.ensures c.full_bits-full.ensures c.reply_by.ensures c.reply_for.ensures

pub returns-clause-state : goal.returns-clause-state
returns-clause-state c =
    marked_state _ _ _ c.self.view_is c.self.invariant _ c.requires.sheet _ c.index.ensures _ _ _ c.requires.slot c.index-marked.ensures (one_shl (c.args.slot % 64) 64 (omega arith))

pub slots-slots-requires : goal.slots-slots-requires
slots-slots-requires c = omega (arith, c.requires.sheet, ap (λ (t : PlainView). length t.layout.sheets) c.self.view_is, sheets_of c.self.inside.plan.now)

pub overflow_cast-group : goal.overflow_cast-group
overflow_cast-group c =
    let k = in_row _ _ _ c.self.view_is c.self.invariant _ c.requires.sheet _ c.requires.slot in
    let few = (few_slots _ _ _ c.self.view_is c.self.invariant _ c.requires.sheet).1 in
    omega (arith, k, few)

pub overflow_shl-bit : goal.overflow_shl-bit
overflow_shl-bit c = omega arith

pub group_size-requires : goal.group_size-requires
group_size-requires c =
    let k = in_row _ _ _ c.self.view_is c.self.invariant _ c.requires.sheet _ c.requires.slot in
    omega (arith, k, c.slots-slots.ensures.value)

pub index-requires : goal.index-requires
index-requires c = let row = (row_in _ _ _ c.self.view_is c.self.invariant _ c.requires.sheet).0 in omega (arith, row)

pub returns-clause-layout : goal.returns-clause-layout
returns-clause-layout c = ap (λ (t : PlainView). t.layout) c.self.view_is
