use Rattle.std.proofs.Common.{arith, sym, ap, ◌∙◌, subst, ◌+◌, ◌-◌, ◌/◌, ◌^◌}
use Rattle.std.proofs.lemmas.Nat.{one_shl}
use Rattle.rules.specs.Sheets.{Layout, layout as layout_of}
use Rattle.gather_table.specs.Table.{HasGroup, IsClosable}
use Rattle.gather_table.specs.Homes.{IsHome}
use Rattle.gather_table.specs.History.{after_history, IsLegal}
use Rattle.gather_table.specs.Steps.{close_of}
use Rattle.gather_table.proofs.Sheets.{close_moves, or_at, close_told, few_groups, wide_room}
use Rattle.rules.proofs.SeatViews.{made, stands_after}
use Rattle.gather_table.proofs.table.GatherTable.close_as.Goals as goal

pub fetch_or-found-requires : goal.fetch_or-found-requires
fetch_or-found-requires g c =
    let ours = ap (λ t. t.table) c.seat.view_is ∙ c.requires.seat.0 ∙ sym (ap (λ t. t.table) c.self.view_is) in
    let same = ap (λ t. t.layout) c.self.view_is in
    let layout = layout_of c.self.inside.table.shared.key in
    let may : IsClosable layout (after_history layout c.seat.inside.token.me.0.front) c.args.sheet c.args.group =
    subst (λ (f : _). IsClosable layout (after_history layout f) c.args.sheet c.args.group) (sym (ap (λ t. t.front) c.seat.view_is))
    (subst (λ (p : Layout). IsClosable p (after_history p c.args.seat.now.front) c.args.sheet c.args.group) (sym same) c.requires.group) in
    let has = may.group in
    let home : IsHome layout c.args.sheet c.index-home.result.now = subst (IsHome layout c.args.sheet) (sym c.index-home.ensures) (c.self.invariant.homes_are c.args.sheet _ has.sheet) in
    let word = home.wide has.wide in
    let room = wide_room layout c.args.sheet c.self.inside.table.shared.table_id.words has.wide has.sheet (let are = c.self.invariant.words_are in omega arith) in
    let few = few_groups layout c.self.invariant.sound.narrow in
    let most = few c.args.sheet has.sheet in
    let low = has.group in (
      ours,
      omega arith,
      or_at layout _ _ _ _ _ _ _ _ _ word (one_shl c.args.group 64 (omega arith)) (c.requires.entry ∙ ap (λ (p : Layout). close_of p c.args.sheet c.args.group) (sym same))
          (close_moves layout _ _ _ c.args.sheet c.args.group few c.seat.invariant.1.held.some_share may),
    )

pub returns : goal.returns
returns g c =
    let same = ap (λ t. t.layout) c.self.view_is in
    let layout = layout_of c.self.inside.table.shared.key in
    let has : HasGroup layout c.args.sheet c.args.group = subst (λ (p : Layout). HasGroup p c.args.sheet c.args.group) (sym same) c.requires.group.group in
    let home : IsHome layout c.args.sheet c.index-home.result.now = subst (IsHome layout c.args.sheet) (sym c.index-home.ensures) (c.self.invariant.homes_are c.args.sheet _ has.sheet) in
    let full = c.full_bits-groups.ensures ∙ ap (λ (n : _). 2 ^ n - 1) (c.from.ensures ∙ c.group_count.ensures) ∙ ap (λ (n : _). 2 ^ ((n + 63) / 64) - 1) home.slots in
    let most = few_groups layout c.self.invariant.sound.narrow c.args.sheet has.sheet in
    let low = has.group in
    made IsLegal _ _ _ _ _ _ _ c.fetch_or-found.ensures.2.1 c.seat.invariant.1.held c.fetch_or-found.ensures.0
    (ap (λ (f : _). f c.fetch_or-found.result) (c.requires.entry ∙ ap (λ (p : Layout). close_of p c.args.sheet c.args.group) (sym same))
    ∙ close_told layout c.args.sheet c.args.group c.fetch_or-found.result _ c.full_bits-groups.result c.reply_by.result c.closing_by.result full (one_shl c.args.group 64 (omega arith)) c.reply_by.ensures c.closing_by.ensures)
    c.seat.view_is

pub invariant_of-seat : goal.invariant_of-seat
invariant_of-seat g c = (c.fetch_or-found.ensures.2.0 ∙ c.seat.invariant.0, stands_after IsLegal _ _ _ _ c.fetch_or-found.ensures.2.1 c.seat.invariant.1)
