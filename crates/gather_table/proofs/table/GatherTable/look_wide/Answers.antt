use Rattle.std.proofs.Common.{arith, true, sym, ap, ◌∙◌, subst, ◌≡◌, ◌<◌, ◌+◌, ◌-◌, ◌/◌, ◌^◌, length}
use Rattle.rules.specs.Sheets.{Layout, layout as layout_of}
use Rattle.gather_table.specs.Table.{is_wide}
use Rattle.gather_table.specs.Homes.{IsHome}
use Rattle.gather_table.specs.History.{IsLegal}
use Rattle.gather_table.specs.Steps.{wide_look_of}
use Rattle.gather_table.proofs.Sheets.{wide_look_moves, load_at, wide_look_told, wide_room}
use Rattle.rules.proofs.SeatViews.{made, stands_after}
use Rattle.gather_table.proofs.table.GatherTable.look_wide.Goals as goal

pub load-found-requires : goal.load-found-requires
load-found-requires g c =
    let ours = ap (λ t. t.table) c.seat.view_is ∙ c.requires.seat.0 ∙ sym (ap (λ t. t.table) c.self.view_is) in
    let same = ap (λ t. t.layout) c.self.view_is in
    let layout = layout_of c.self.inside.table.shared.key in
    let below : c.args.sheet < length layout.sheets = subst (λ p. c.args.sheet < length p.sheets) (sym same) c.requires.sheet in
    let kind : is_wide layout c.args.sheet ≡ true = subst (λ (p : Layout). is_wide p c.args.sheet ≡ true) (sym same) c.requires.wide in
    let home : IsHome layout c.args.sheet c.index-home.result.now = subst (IsHome layout c.args.sheet) (sym c.index-home.ensures) (c.self.invariant.homes_are c.args.sheet _ below) in
    let word = home.wide kind in
    let room = wide_room layout c.args.sheet c.self.inside.table.shared.table_id.words kind below (let are = c.self.invariant.words_are in omega arith) in
    let words = c.self.invariant.words_are in
    (ours, omega arith, load_at layout _ _ _ _ _ _ _ word (c.requires.entry ∙ ap (λ (p : Layout). wide_look_of p c.args.sheet) (sym same)) (wide_look_moves layout _ _ _ c.args.sheet kind below c.seat.invariant.1.held.some_share))

pub returns : goal.returns
returns g c =
    let same = ap (λ t. t.layout) c.self.view_is in
    let layout = layout_of c.self.inside.table.shared.key in
    let below : c.args.sheet < length layout.sheets = subst (λ p. c.args.sheet < length p.sheets) (sym same) c.requires.sheet in
    let kind : is_wide layout c.args.sheet ≡ true = subst (λ (p : Layout). is_wide p c.args.sheet ≡ true) (sym same) c.requires.wide in
    let home : IsHome layout c.args.sheet c.index-home.result.now = subst (IsHome layout c.args.sheet) (sym c.index-home.ensures) (c.self.invariant.homes_are c.args.sheet _ below) in
    let full = c.full_bits-groups.ensures ∙ ap (λ (n : _). 2 ^ n - 1) (c.from.ensures ∙ c.group_count.ensures) ∙ ap (λ (n : _). 2 ^ ((n + 63) / 64) - 1) home.slots in
    made IsLegal _ _ _ _ _ _ _ c.load-found.ensures.2.1 c.seat.invariant.1.held c.load-found.ensures.0
    (ap (λ (f : _). f c.load-found.result) (c.requires.entry ∙ ap (λ (p : Layout). wide_look_of p c.args.sheet) (sym same))
    ∙ wide_look_told layout c.args.sheet c.load-found.result c.full_bits-groups.result full)
    c.seat.view_is

pub invariant_of-seat : goal.invariant_of-seat
invariant_of-seat g c = (c.load-found.ensures.2.0 ∙ c.seat.invariant.0, stands_after IsLegal _ _ _ _ c.load-found.ensures.2.1 c.seat.invariant.1)
