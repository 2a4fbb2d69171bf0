use Rattle.std.proofs.Common.{rules, arith, true, sym, ap, ◌∙◌, subst, ◌≡◌, ◌<◌, ◌+◌, ◌-◌, ◌*◌, ◌/◌, ◌%◌, ◌^◌, length, nat_lt, if◌then◌else◌}
use Rattle.std.proofs.lemmas.Nat.{one_shl}
use Rattle.rules.specs.Sheets.{Layout, layout as layout_of}
use Rattle.gather_table.specs.Table.{slots_on, is_wide, IsMarkable}
use Rattle.gather_table.specs.Homes.{IsHome}
use Rattle.gather_table.specs.History.{after_history, IsLegal}
use Rattle.gather_table.specs.Steps.{wide_mark_of}
use Rattle.gather_table.proofs.Histories.{below_length}
use Rattle.gather_table.proofs.Sheets.{wide_mark_moves, or_at, wide_mark_told, group_of_slot, wide_room}
use Rattle.rules.proofs.SeatViews.{made, stands_after}
use Rattle.gather_table.proofs.table.GatherTable.mark_wide.Goals as goal

pub fetch_or-found-requires : goal.fetch_or-found-requires
fetch_or-found-requires g c =
    let ours = ap (λ t. t.table) c.seat.view_is ∙ c.requires.seat.0 ∙ sym (ap (λ t. t.table) c.self.view_is) in
    let same = ap (λ t. t.layout) c.self.view_is in
    let layout = layout_of c.self.inside.table.shared.key in
    let below : c.args.sheet < length layout.sheets = subst (λ p. c.args.sheet < length p.sheets) (sym same) c.requires.sheet in
    let wide : is_wide layout c.args.sheet ≡ true = subst (λ (p : Layout). is_wide p c.args.sheet ≡ true) (sym same) c.requires.wide in
    let markable : IsMarkable layout (after_history layout c.seat.inside.token.me.0.front) c.args.sheet c.args.slot =
    subst (λ (f : _). IsMarkable layout (after_history layout f) c.args.sheet c.args.slot) (sym (ap (λ t. t.front) c.seat.view_is))
    (subst (λ (p : Layout). IsMarkable p (after_history p c.args.seat.now.front) c.args.sheet c.args.slot) (sym same) c.requires.slot) in
    let in_sheet : c.args.slot < slots_on layout c.args.sheet = below_length _ c.args.slot _ markable.needed in
    let home : IsHome layout c.args.sheet c.index-home.result.now = subst (IsHome layout c.args.sheet) (sym c.index-home.ensures) (c.self.invariant.homes_are c.args.sheet _ below) in
    let word = home.wide wide in
    let room = wide_room layout c.args.sheet c.self.inside.table.shared.table_id.words wide below (let are = c.self.invariant.words_are in omega arith) in
    let group = group_of_slot layout c.args.sheet c.args.slot in_sheet in (
      ours,
      omega arith,
      or_at layout _ _ _ _ _ _ _ _ _ (omega arith) (one_shl (c.args.slot % 64) 64 (omega arith)) (c.requires.entry ∙ ap (λ (p : Layout). wide_mark_of p c.args.sheet c.args.slot) (sym same))
          (wide_mark_moves layout _ _ _ c.args.sheet c.args.slot wide below c.seat.invariant.1.held.some_share markable),
    )

pub overflow_cast-group : goal.overflow_cast-group
overflow_cast-group g c =
    let same = ap (λ t. t.layout) c.self.view_is in
    let layout = layout_of c.self.inside.table.shared.key in
    let below : c.args.sheet < length layout.sheets = subst (λ p. c.args.sheet < length p.sheets) (sym same) c.requires.sheet in
    let in_sheet : c.args.slot < slots_on layout c.args.sheet = subst (λ (p : Layout). c.args.slot < slots_on p c.args.sheet) (sym same) (below_length _ c.args.slot _ c.requires.slot.needed) in
    let narrow = c.self.invariant.sound.narrow c.args.sheet below in
    let low : c.args.slot / 64 < 256 = omega arith in
    search rules

pub returns : goal.returns
returns g c =
    let same = ap (λ t. t.layout) c.self.view_is in
    let layout = layout_of c.self.inside.table.shared.key in
    let below : c.args.sheet < length layout.sheets = subst (λ p. c.args.sheet < length p.sheets) (sym same) c.requires.sheet in
    let home : IsHome layout c.args.sheet c.index-home.result.now = subst (IsHome layout c.args.sheet) (sym c.index-home.ensures) (c.self.invariant.homes_are c.args.sheet _ below) in
    let size = c.group_size.ensures ∙ ap (λ (n : _). if nat_lt (64 * (c.args.slot / 64) + 64) n then 64 else n - 64 * (c.args.slot / 64)) home.slots in
    let full = c.full_bits-full.ensures ∙ ap (λ (n : _). 2 ^ n - 1) size in
    made IsLegal _ _ _ _ _ _ _ c.fetch_or-found.ensures.2.1 c.seat.invariant.1.held c.fetch_or-found.ensures.0
    (ap (λ (f : _). f c.fetch_or-found.result) (c.requires.entry ∙ ap (λ (p : Layout). wide_mark_of p c.args.sheet c.args.slot) (sym same))
    ∙ wide_mark_told layout c.args.sheet c.args.slot c.fetch_or-found.result _ c.full_bits-full.result c.reply_by.result c.group_reply.result full (one_shl (c.args.slot % 64) 64 (omega arith)) c.reply_by.ensures c.group_reply.ensures)
    c.seat.view_is

pub invariant_of-seat : goal.invariant_of-seat
invariant_of-seat g c = (c.fetch_or-found.ensures.2.0 ∙ c.seat.invariant.0, stands_after IsLegal _ _ _ _ c.fetch_or-found.ensures.2.1 c.seat.invariant.1)
