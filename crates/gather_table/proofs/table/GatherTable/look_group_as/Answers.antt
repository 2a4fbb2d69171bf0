use Rattle.std.proofs.Common.{arith, sym, ap, ◌∙◌, subst, ◌+◌, ◌-◌, ◌*◌, ◌^◌, nat_lt, if◌then◌else◌}
use Rattle.rules.specs.Sheets.{Layout, layout as layout_of}
use Rattle.gather_table.specs.Table.{HasGroup}
use Rattle.gather_table.specs.Homes.{IsHome}
use Rattle.gather_table.specs.History.{IsLegal}
use Rattle.gather_table.specs.Steps.{look_group_of}
use Rattle.gather_table.proofs.Sheets.{look_group_moves, load_at, look_group_told, wide_room}
use Rattle.rules.proofs.SeatViews.{made, stands_after}
use Rattle.gather_table.proofs.table.GatherTable.look_group_as.Goals as goal

pub load-found-requires : goal.load-found-requires
load-found-requires g c =
    let ours = ap (λ t. t.table) c.seat.view_is ∙ c.requires.seat.0 ∙ sym (ap (λ t. t.table) c.self.view_is) in
    let same = ap (λ t. t.layout) c.self.view_is in
    let layout = layout_of c.self.inside.table.shared.key in
    let has : HasGroup layout c.args.sheet c.args.group = subst (λ (p : Layout). HasGroup p c.args.sheet c.args.group) (sym same) c.requires.group in
    let home : IsHome layout c.args.sheet c.index-home.result.now = subst (IsHome layout c.args.sheet) (sym c.index-home.ensures) (c.self.invariant.homes_are c.args.sheet _ has.sheet) in
    let word = home.wide has.wide in
    let room = wide_room layout c.args.sheet c.self.inside.table.shared.table_id.words has.wide has.sheet (let are = c.self.invariant.words_are in omega arith) in
    let low = has.group in
    (ours, omega arith, load_at layout _ _ _ _ _ _ _ (omega arith) (c.requires.entry ∙ ap (λ (p : Layout). look_group_of p c.args.sheet c.args.group) (sym same)) (look_group_moves layout _ _ _ c.args.sheet c.args.group has c.seat.invariant.1.held.some_share))

pub returns : goal.returns
returns g c =
    let same = ap (λ t. t.layout) c.self.view_is in
    let layout = layout_of c.self.inside.table.shared.key in
    let has : HasGroup layout c.args.sheet c.args.group = subst (λ (p : Layout). HasGroup p c.args.sheet c.args.group) (sym same) c.requires.group in
    let home : IsHome layout c.args.sheet c.index-home.result.now = subst (IsHome layout c.args.sheet) (sym c.index-home.ensures) (c.self.invariant.homes_are c.args.sheet _ has.sheet) in
    let size = c.group_size.ensures ∙ ap (λ (n : _). if nat_lt (64 * c.args.group + 64) n then 64 else n - 64 * c.args.group) home.slots in
    let full = c.full_bits-full.ensures ∙ ap (λ (n : _). 2 ^ n - 1) size in
    made IsLegal _ _ _ _ _ _ _ c.load-found.ensures.2.1 c.seat.invariant.1.held c.load-found.ensures.0
    (ap (λ (f : _). f c.load-found.result) (c.requires.entry ∙ ap (λ (p : Layout). look_group_of p c.args.sheet c.args.group) (sym same))
    ∙ look_group_told layout c.args.sheet c.args.group c.load-found.result c.full_bits-full.result full)
    c.seat.view_is

pub invariant_of-seat : goal.invariant_of-seat
invariant_of-seat g c = (c.load-found.ensures.2.0 ∙ c.seat.invariant.0, stands_after IsLegal _ _ _ _ c.load-found.ensures.2.1 c.seat.invariant.1)
