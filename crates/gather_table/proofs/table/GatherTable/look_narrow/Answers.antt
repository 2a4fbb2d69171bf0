use Rattle.std.proofs.Common.{arith, false, sym, ap, ◌∙◌, subst, ◌≡◌, ◌<◌, ◌-◌, ◌^◌, length}
use Rattle.rules.specs.Sheets.{Layout, layout as layout_of}
use Rattle.gather_table.specs.Table.{is_wide}
use Rattle.gather_table.specs.Homes.{IsHome}
use Rattle.gather_table.specs.History.{IsLegal}
use Rattle.gather_table.specs.Steps.{look_of}
use Rattle.gather_table.proofs.Lanes.{lane_below}
use Rattle.gather_table.proofs.Sheets.{look_moves, load_at, look_told}
use Rattle.rules.proofs.SeatViews.{made, stands_after}
use Rattle.gather_table.proofs.table.GatherTable.look_narrow.Goals as goal

pub load-found-requires : goal.load-found-requires
load-found-requires g c =
    let ours = ap (λ t. t.table) c.seat.view_is ∙ c.requires.seat.0 ∙ sym (ap (λ t. t.table) c.self.view_is) in
    let same = ap (λ t. t.layout) c.self.view_is in
    let layout = layout_of c.self.inside.table.shared.key in
    let below : c.args.sheet < length layout.sheets = subst (λ p. c.args.sheet < length p.sheets) (sym same) c.requires.sheet in
    let kind : is_wide layout c.args.sheet ≡ false = subst (λ (p : Layout). is_wide p c.args.sheet ≡ false) (sym same) c.requires.narrow in
    let home : IsHome layout c.args.sheet c.index-home.result.now = subst (IsHome layout c.args.sheet) (sym c.index-home.ensures) (c.self.invariant.homes_are c.args.sheet _ below) in
    let word = (home.lane kind).0 in
    let room = lane_below layout c.args.sheet (length layout.sheets) below in
    let words = c.self.invariant.words_are in
    (ours, omega arith, load_at layout _ _ _ _ _ _ _ word (c.requires.entry ∙ ap (λ (p : Layout). look_of p c.args.sheet) (sym same)) (look_moves layout _ _ _ c.args.sheet kind below c.seat.invariant.1.held.some_share))

pub returns : goal.returns
returns g c =
    let same = ap (λ t. t.layout) c.self.view_is in
    let layout = layout_of c.self.inside.table.shared.key in
    let below : c.args.sheet < length layout.sheets = subst (λ p. c.args.sheet < length p.sheets) (sym same) c.requires.sheet in
    let kind : is_wide layout c.args.sheet ≡ false = subst (λ (p : Layout). is_wide p c.args.sheet ≡ false) (sym same) c.requires.narrow in
    let home : IsHome layout c.args.sheet c.index-home.result.now = subst (IsHome layout c.args.sheet) (sym c.index-home.ensures) (c.self.invariant.homes_are c.args.sheet _ below) in
    let full = c.full_bits-full.ensures ∙ ap (λ (n : _). 2 ^ n - 1) home.slots in
    made IsLegal _ _ _ _ _ _ _ c.load-found.ensures.2.1 c.seat.invariant.1.held c.load-found.ensures.0
    (ap (λ (f : _). f c.load-found.result) (c.requires.entry ∙ ap (λ (p : Layout). look_of p c.args.sheet) (sym same))
    ∙ look_told layout c.args.sheet c.load-found.result c.full_bits-full.result c.index-home.result.now.first (home.lane kind).1 full)
    c.seat.view_is

pub invariant_of-seat : goal.invariant_of-seat
invariant_of-seat g c = (c.load-found.ensures.2.0 ∙ c.seat.invariant.0, stands_after IsLegal _ _ _ _ c.load-found.ensures.2.1 c.seat.invariant.1)
