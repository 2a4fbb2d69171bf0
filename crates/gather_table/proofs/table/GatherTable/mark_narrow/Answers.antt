use Rattle.std.proofs.Common.{arith, false, sym, ap, ◌∙◌, subst, ◌≡◌, ◌<◌, ◌+◌, ◌-◌, ◌^◌, length}
use Rattle.std.proofs.lemmas.Nat.{one_shl}
use Rattle.rules.specs.Sheets.{Layout, layout as layout_of}
use Rattle.gather_table.specs.Table.{slots_on, is_wide, IsMarkable}
use Rattle.gather_table.specs.Lanes.{lane}
use Rattle.gather_table.specs.Homes.{IsHome}
use Rattle.gather_table.specs.History.{after_history, IsLegal}
use Rattle.gather_table.specs.Steps.{mark_of}
use Rattle.gather_table.proofs.Histories.{below_length}
use Rattle.gather_table.proofs.Lanes.{inside, width_of, width_le, lane_below}
use Rattle.gather_table.proofs.Sheets.{mark_moves, or_at, mark_told, slim_le}
use Rattle.rules.proofs.SeatViews.{made, stands_after}
use Rattle.gather_table.proofs.table.GatherTable.mark_narrow.Goals as goal

pub fetch_or-found-requires : goal.fetch_or-found-requires
fetch_or-found-requires g c =
    let ours = ap (λ t. t.table) c.seat.view_is ∙ c.requires.seat.0 ∙ sym (ap (λ t. t.table) c.self.view_is) in
    let same = ap (λ t. t.layout) c.self.view_is in
    let layout = layout_of c.self.inside.table.shared.key in
    let below : c.args.sheet < length layout.sheets = subst (λ p. c.args.sheet < length p.sheets) (sym same) c.requires.sheet in
    let slim : is_wide layout c.args.sheet ≡ false = subst (λ (p : Layout). is_wide p c.args.sheet ≡ false) (sym same) c.requires.narrow in
    let markable : IsMarkable layout (after_history layout c.seat.inside.token.me.0.front) c.args.sheet c.args.slot =
    subst (λ (f : _). IsMarkable layout (after_history layout f) c.args.sheet c.args.slot) (sym (ap (λ t. t.front) c.seat.view_is))
    (subst (λ (p : Layout). IsMarkable p (after_history p c.args.seat.now.front) c.args.sheet c.args.slot) (sym same) c.requires.slot) in
    let in_sheet : c.args.slot < slots_on layout c.args.sheet = below_length _ c.args.slot _ markable.needed in
    let home : IsHome layout c.args.sheet c.index-home.result.now = subst (IsHome layout c.args.sheet) (sym c.index-home.ensures) (c.self.invariant.homes_are c.args.sheet _ below) in
    let at = home.lane slim in
    let room = lane_below layout c.args.sheet (length layout.sheets) below in
    let words = c.self.invariant.words_are in
    let inner = inside layout (λ q _. width_le layout q) c.args.sheet below in
    let width = width_of layout c.args.sheet slim in
    let one = c.from.ensures in
    let two = c.from-2.ensures in
    let first = at.1 in
    let word = at.0 in
    let place : c.from.result + c.from-2.result ≡ (lane layout c.args.sheet).first + c.args.slot = omega arith in (
      ours,
      omega arith,
      or_at layout _ _ _ _ _ _ _ _ _ at.0 (one_shl (c.from.result + c.from-2.result) 64 (omega arith) ∙ ap (λ (k : _). 2 ^ k) place) (c.requires.entry ∙ ap (λ (p : Layout). mark_of p c.args.sheet c.args.slot) (sym same))
          (mark_moves layout _ _ _ c.args.sheet c.args.slot slim below c.seat.invariant.1.held.some_share markable),
    )

pub returns : goal.returns
returns g c =
    let same = ap (λ t. t.layout) c.self.view_is in
    let layout = layout_of c.self.inside.table.shared.key in
    let below : c.args.sheet < length layout.sheets = subst (λ p. c.args.sheet < length p.sheets) (sym same) c.requires.sheet in
    let slim : is_wide layout c.args.sheet ≡ false = subst (λ (p : Layout). is_wide p c.args.sheet ≡ false) (sym same) c.requires.narrow in
    let in_sheet : c.args.slot < slots_on layout c.args.sheet = subst (λ (p : Layout). c.args.slot < slots_on p c.args.sheet) (sym same) (below_length _ c.args.slot _ c.requires.slot.needed) in
    let le = slim_le layout c.args.sheet slim in
    let home : IsHome layout c.args.sheet c.index-home.result.now = subst (IsHome layout c.args.sheet) (sym c.index-home.ensures) (c.self.invariant.homes_are c.args.sheet _ below) in
    let full = c.full_bits-full.ensures ∙ ap (λ (n : _). 2 ^ n - 1) home.slots in
    made IsLegal _ _ _ _ _ _ _ c.fetch_or-found.ensures.2.1 c.seat.invariant.1.held c.fetch_or-found.ensures.0
    (ap (λ (f : _). f c.fetch_or-found.result) (c.requires.entry ∙ ap (λ (p : Layout). mark_of p c.args.sheet c.args.slot) (sym same))
    ∙ mark_told layout c.args.sheet c.args.slot c.fetch_or-found.result _ c.full_bits-full.result c.index-home.result.now.first c.reply_by.result (home.lane slim).1 full (one_shl c.args.slot 64 (omega arith)) c.reply_by.ensures)
    c.seat.view_is

pub invariant_of-seat : goal.invariant_of-seat
invariant_of-seat g c = (c.fetch_or-found.ensures.2.0 ∙ c.seat.invariant.0, stands_after IsLegal _ _ _ _ c.fetch_or-found.ensures.2.1 c.seat.invariant.1)

pub index-home-requires : goal.index-home-requires
index-home-requires g c =
    let same = ap (λ t. t.layout) c.self.view_is in
    let layout = layout_of c.self.inside.table.shared.key in
    let below : c.args.sheet < length layout.sheets = subst (λ p. c.args.sheet < length p.sheets) (sym same) c.requires.sheet in
    omega (arith, below, c.self.invariant.count)

pub full_bits-full-requires : goal.full_bits-full-requires
full_bits-full-requires g c =
    let same = ap (λ t. t.layout) c.self.view_is in
    let layout = layout_of c.self.inside.table.shared.key in
    let below : c.args.sheet < length layout.sheets = subst (λ p. c.args.sheet < length p.sheets) (sym same) c.requires.sheet in
    let slim : is_wide layout c.args.sheet ≡ false = subst (λ (p : Layout). is_wide p c.args.sheet ≡ false) (sym same) c.requires.narrow in
    let in_sheet : c.args.slot < slots_on layout c.args.sheet = subst (λ (p : Layout). c.args.slot < slots_on p c.args.sheet) (sym same) (below_length _ c.args.slot _ c.requires.slot.needed) in
    let home : IsHome layout c.args.sheet c.index-home.result.now = subst (IsHome layout c.args.sheet) (sym c.index-home.ensures) (c.self.invariant.homes_are c.args.sheet _ below) in
    let le = slim_le layout c.args.sheet slim in
    (omega (arith, home.slots, in_sheet), omega (arith, home.slots, le))

pub overflow_shl-place : goal.overflow_shl-place
overflow_shl-place g c =
    let same = ap (λ t. t.layout) c.self.view_is in
    let layout = layout_of c.self.inside.table.shared.key in
    let below : c.args.sheet < length layout.sheets = subst (λ p. c.args.sheet < length p.sheets) (sym same) c.requires.sheet in
    let slim : is_wide layout c.args.sheet ≡ false = subst (λ (p : Layout). is_wide p c.args.sheet ≡ false) (sym same) c.requires.narrow in
    let in_sheet : c.args.slot < slots_on layout c.args.sheet = subst (λ (p : Layout). c.args.slot < slots_on p c.args.sheet) (sym same) (below_length _ c.args.slot _ c.requires.slot.needed) in
    let home : IsHome layout c.args.sheet c.index-home.result.now = subst (IsHome layout c.args.sheet) (sym c.index-home.ensures) (c.self.invariant.homes_are c.args.sheet _ below) in
    let first = (home.lane slim).1 in
    let inner = inside layout (λ q _. width_le layout q) c.args.sheet below in
    let width = width_of layout c.args.sheet slim in
    omega (arith, first, inner, width, in_sheet, c.from.ensures, c.from-2.ensures)

pub overflow_shr-found : goal.overflow_shr-found
overflow_shr-found g c =
    let same = ap (λ t. t.layout) c.self.view_is in
    let layout = layout_of c.self.inside.table.shared.key in
    let below : c.args.sheet < length layout.sheets = subst (λ p. c.args.sheet < length p.sheets) (sym same) c.requires.sheet in
    let slim : is_wide layout c.args.sheet ≡ false = subst (λ (p : Layout). is_wide p c.args.sheet ≡ false) (sym same) c.requires.narrow in
    let in_sheet : c.args.slot < slots_on layout c.args.sheet = subst (λ (p : Layout). c.args.slot < slots_on p c.args.sheet) (sym same) (below_length _ c.args.slot _ c.requires.slot.needed) in
    let home : IsHome layout c.args.sheet c.index-home.result.now = subst (IsHome layout c.args.sheet) (sym c.index-home.ensures) (c.self.invariant.homes_are c.args.sheet _ below) in
    let first = (home.lane slim).1 in
    let inner = inside layout (λ q _. width_le layout q) c.args.sheet below in
    let width = width_of layout c.args.sheet slim in
    omega (arith, first, inner, width, in_sheet)

pub overflow_shl-slot : goal.overflow_shl-slot
overflow_shl-slot g c =
    let same = ap (λ t. t.layout) c.self.view_is in
    let layout = layout_of c.self.inside.table.shared.key in
    let below : c.args.sheet < length layout.sheets = subst (λ p. c.args.sheet < length p.sheets) (sym same) c.requires.sheet in
    let slim : is_wide layout c.args.sheet ≡ false = subst (λ (p : Layout). is_wide p c.args.sheet ≡ false) (sym same) c.requires.narrow in
    let in_sheet : c.args.slot < slots_on layout c.args.sheet = subst (λ (p : Layout). c.args.slot < slots_on p c.args.sheet) (sym same) (below_length _ c.args.slot _ c.requires.slot.needed) in
    omega (arith, in_sheet, slim_le layout c.args.sheet slim)
