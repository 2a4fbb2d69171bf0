-- Each page of a zine lies in its cell, those of the first row upside down.
use Rattle.std.proofs.Common.{arith, ◌≡◌, ◌∙◌, ℕ, suc, zero, ◌+◌, ◌-◌, ◌*◌, ◌<◌, ◌≤◌, Bool, true, false, Option, Some, None, length, map, refl, sym, ap, subst}
use Rattle.std.specs.Prelude.{ℤ, pos, ◌≤ℤ◌, ◌+ℤ◌, ◌-ℤ◌, ◌*ℤ◌, nat_abs, nat_lt, if◌then◌else◌, slice_index_or}
use Rattle.std.specs.List.{range_with_len}
use Rattle.std.proofs.Math.Nat.{lt-div-mul-add, div-mul-le_self}
use Rattle.std.proofs.lemmas.Bool.{cond-false, ltb-true}
use Rattle.std.proofs.lemmas.Int.{ints}
use Rattle.rules.specs.Papers.{Paper}
use Rattle.rules.specs.Placement.{Point}
use Rattle.rules.specs.Specification.{Item}
use Rattle.rules.specs.Sheets.{blocks}
use Rattle.rules.specs.Made.{MadeSheet, MadeSlot}
use Rattle.layouts.specs.declared.arrangement.Order.{Order}
use Rattle.layouts.specs.declared.setting.Setting.{Setting}
use Rattle.layouts.specs.Placed.{IsEven, Room, fine, stands}
use Rattle.layouts.specs.Cells.{Along, Grid, along_height, along_width, size, kept_length, pitch, left_free, whole_parts, column_of, row_of, half_turned, high, turn_in, wide, item_in_cell}
use Rattle.layouts.specs.Grids.{page_alone, leaf_order}
use Rattle.layouts.specs.Fitted.{fitted, fitted_back, is_whole, past_cell, scale_on, why_not_fitted}
use Rattle.layouts.specs.Laws.{Cell, IsInCell, IsPaper, LiesInCell, cell_at}
use Rattle.layouts.proofs.AlongSide.{cells_fit}
use Rattle.layouts.proofs.Fitting.{fitted_stands, in_cell, one_of_many, scale_of_many, stands_back}
use Rattle.layouts.proofs.InGrid.{fits}
use Rattle.row_sheets.specs.Filled.{Filling, slot_on, zine_entry, zine_slot}
use Rattle.row_sheets.specs.Standing.{EntryFits}
use Rattle.row_sheets.specs.Zine.{AreZineCells, LiesInZine, SlotLiesInZine, ZineLiesInCells, zine_grid}
use Rattle.row_sheets.proofs.OnSheets.{each_of, numbered}
use Rattle.row_sheets.proofs.Zines.{eight_cells, half_cell, kept_is}

-- ---- opposite cells

-- so long before the cell, in the cell and before the opposite one, there is a whole side, but for what is rounded
record Opposite (side one long other : ℕ) : Type 0 where
  pub least : one + (other + long) ≤ side
  pub most : side ≤ one + (other + long) + 3

record AreOpposite (sheet : Paper) (c d : Cell) : Type 0 where
  pub across : Opposite (whole_parts (nat_abs sheet.width)) c.left c.width d.left
  pub up : Opposite (whole_parts (nat_abs sheet.height)) c.bottom c.height d.bottom
  pub as_wide : d.width ≡ c.width
  pub as_high : d.height ≡ c.height

-- of two cells side by side, and of four
of_two : (p D E F w : ℕ) → 0 < p - D → E ≡ F → 2 * p + (E + F) ≤ whole_parts w + D → w - 1_270_000 * (E + F) + 1_270_000 * D < p * (1_270_000 * 2) + 1_270_000 * 2
    → Opposite (whole_parts w) (E + 0 * p) (p - D) (E + 1 * p) × Opposite (whole_parts w) (E + 1 * p) (p - D) (E + 0 * p)
of_two p D E F w some even fit least =
    let cut = div-mul-le_self w 1_270_000 in (
      record { least = omega (arith, some, even, fit); most = omega (arith, some, even, least, cut) },
      record { least = omega (arith, some, even, fit); most = omega (arith, some, even, least, cut) },
    )

of_four : (p D E F w k : ℕ) → k < 4 → 0 < p - D → E ≡ F → 4 * p + (E + F) ≤ whole_parts w + D → w - 1_270_000 * (E + F) + 1_270_000 * D < p * (1_270_000 * 4) + 1_270_000 * 4
    → Opposite (whole_parts w) (E + k * p) (p - D) (E + (3 - k) * p)
of_four p D E F w zero less some even fit least =
    let cut = div-mul-le_self w 1_270_000 in record { least = omega (arith, some, even, fit); most = omega (arith, some, even, least, cut) }
of_four p D E F w (suc zero) less some even fit least =
    let cut = div-mul-le_self w 1_270_000 in record { least = omega (arith, some, even, fit); most = omega (arith, some, even, least, cut) }
of_four p D E F w (suc (suc zero)) less some even fit least =
    let cut = div-mul-le_self w 1_270_000 in record { least = omega (arith, some, even, fit); most = omega (arith, some, even, least, cut) }
of_four p D E F w (suc (suc (suc zero))) less some even fit least =
    let cut = div-mul-le_self w 1_270_000 in record { least = omega (arith, some, even, fit); most = omega (arith, some, even, least, cut) }
of_four p D E F w (suc (suc (suc (suc k)))) less some even fit least = absurd (omega (arith, less))

-- a cell of the first row, and the opposite one
abbrev cell_of : Room → (b r : Bool) → (c : ℕ) → Cell
cell_of room b r c = cell_at room (zine_grid b) (row_of (leaf_order r) (zine_grid b) c) (column_of (leaf_order r) (zine_grid b) c)

two_along : (a : Along) (w : ℕ) → kept_length a.trim a.before ≡ kept_length a.trim a.after → 0 < pitch a w 2 - kept_length a.trim a.gap
    → Opposite (whole_parts w) (kept_length a.trim a.before + 0 * pitch a w 2) (pitch a w 2 - kept_length a.trim a.gap) (kept_length a.trim a.before + 1 * pitch a w 2)
    × Opposite (whole_parts w) (kept_length a.trim a.before + 1 * pitch a w 2) (pitch a w 2 - kept_length a.trim a.gap) (kept_length a.trim a.before + 0 * pitch a w 2)
two_along a w even some =
    let D = kept_length a.trim a.gap in
    of_two (pitch a w 2) D (kept_length a.trim a.before) (kept_length a.trim a.after) w some even (cells_fit a w 2 1 some (omega arith)) (lt-div-mul-add {a = left_free a w + 1_270_000 * D} {b = 1_270_000 * 2} (omega arith))

four_along : (a : Along) (w k : ℕ) → k < 4 → kept_length a.trim a.before ≡ kept_length a.trim a.after → 0 < pitch a w 4 - kept_length a.trim a.gap
    → Opposite (whole_parts w) (kept_length a.trim a.before + k * pitch a w 4) (pitch a w 4 - kept_length a.trim a.gap) (kept_length a.trim a.before + (3 - k) * pitch a w 4)
four_along a w k less even some =
    let D = kept_length a.trim a.gap in
    of_four (pitch a w 4) D (kept_length a.trim a.before) (kept_length a.trim a.after) w k less some even (cells_fit a w 4 3 some (omega arith)) (lt-div-mul-add {a = left_free a w + 1_270_000 * D} {b = 1_270_000 * 4} (omega arith))

-- the cell in column k of the first row, and the opposite one
opposite_at : (room : Room) (b : Bool) (k : ℕ) → k < 4 → IsEven room → 0 < wide room (zine_grid b) → 0 < high room (zine_grid b)
    → AreOpposite room.paper (cell_at room (zine_grid b) 0 k) (cell_at room (zine_grid b) 1 (3 - k))
opposite_at room false k less even across up = record {
  across = four_along (along_width room) (nat_abs room.paper.width) k less (ap (kept_length room.trim) even.across) across;
  up = (two_along (along_height room) (nat_abs room.paper.height) (ap (kept_length room.trim) even.up) up).1;
  as_wide = refl;
  as_high = refl;
}
opposite_at room true k less even across up = record {
  across = (two_along (along_width room) (nat_abs room.paper.width) (ap (kept_length room.trim) even.across) up).0;
  up = four_along (along_height room) (nat_abs room.paper.height) k less (ap (kept_length room.trim) even.up) across;
  as_wide = refl;
  as_high = refl;
}

opposite : (room : Room) (b r : Bool) (c : ℕ) → c < 4 → IsEven room → 0 < wide room (zine_grid b) → 0 < high room (zine_grid b)
    → AreOpposite room.paper (cell_of room b r c) (cell_of room b r (7 - c))
opposite room b false zero less = opposite_at room b 0 (omega arith)
opposite room b false (suc zero) less = opposite_at room b 1 (omega arith)
opposite room b false (suc (suc zero)) less = opposite_at room b 2 (omega arith)
opposite room b false (suc (suc (suc zero))) less = opposite_at room b 3 (omega arith)
opposite room b true zero less = opposite_at room b 3 (omega arith)
opposite room b true (suc zero) less = opposite_at room b 2 (omega arith)
opposite room b true (suc (suc zero)) less = opposite_at room b 1 (omega arith)
opposite room b true (suc (suc (suc zero))) less = opposite_at room b 0 (omega arith)
opposite room b r (suc (suc (suc (suc c)))) less = absurd (omega (arith, less))

-- ---- turned by half

half_side : (side one long other long' past : ℕ) (z z' : ℤ) → Opposite side one long other → long' ≡ long → past ≡ 0 → fine other ≤ℤ (z +ℤ fine past) → z ≤ℤ fine (other + long' + past) → z' ≡ (pos 1_270_000_000_000_000 *ℤ pos side) -ℤ z
    → (fine one ≤ℤ (z' +ℤ fine 3)) × (z' ≤ℤ fine (one + long + 3))
half_side side one long other long' past z z' is same none from to half =
    let least = is.least in let most = is.most in
    (omega (arith, ints, least, most, same, none, from, to, half), omega (arith, ints, least, most, same, none, from, to, half))

half_lies : (sheet : Paper) (c d : Cell) (past : ℕ) (p q : Point) → AreOpposite sheet c d → past ≡ 0 → LiesInCell d past p
    → q.x ≡ (pos 1_270_000_000_000_000 *ℤ pos (whole_parts (nat_abs sheet.width))) -ℤ p.x → q.y ≡ (pos 1_270_000_000_000_000 *ℤ pos (whole_parts (nat_abs sheet.height))) -ℤ p.y → LiesInCell c 3 q
half_lies sheet c d past p q is none at x y =
    let across = half_side (whole_parts (nat_abs sheet.width)) c.left c.width d.left d.width past p.x q.x is.across is.as_wide none at.left at.right x in
    let up = half_side (whole_parts (nat_abs sheet.height)) c.bottom c.height d.bottom d.height past p.y q.y is.up is.as_high none at.bottom at.top y in
    record { left = across.0; right = across.1; bottom = up.0; top = up.1 }

-- ---- a page

abbrev OppositeIn : Setting → (c : ℕ) → Grid → Order → Type 0
OppositeIn t c g o = 0 < wide t.room g → 0 < high t.room g
    → AreOpposite t.room.paper (cell_at t.room g (row_of o g c) (column_of o g c)) (cell_at t.room g (row_of o g (7 - c)) (column_of o g (7 - c)))

opposite_in : (t : Setting) (c : ℕ) → AreZineCells t → c < 4 → OppositeIn t c t.grid t.order
opposite_in t c cells less =
    subst (λ g. OppositeIn t c g t.order) (sym cells.grid_is)
    (subst (OppositeIn t c (zine_grid t.grid.turned)) (sym cells.order_is)
    (opposite t.room t.grid.turned t.order.right_to_left c less cells.even))

nothing_past : (t : Setting) (page : Paper) → AreZineCells t → is_whole t page ≡ false → past_cell t page ≡ 0
nothing_past t page cells not = cond-false (is_whole t page) 1 (kept_length t.room.trim 0) not ∙ kept_is t.room.trim 0 cells.untrimmed

in_first : (t : Setting) (page : Paper) (c : ℕ) → AreZineCells t → IsPaper page → IsPaper t.room.paper → why_not_fitted t page ≡ None → c < 8 → nat_lt c 4 ≡ true → LiesInZine t c page (fitted_back t page (7 - c))
in_first t page c cells is on h within e =
    let less = ltb-true c 4 e in
    let all = eight_cells t cells in
    let many : 2 ≤ size t.grid = omega (arith, all) in
    let not = one_of_many t page many in
    let place = (in_cell t page (7 - c) 0 not h).1 in
    let room = fits page t.room t.grid (scale_on t page) place in
    let inside : 7 - c < size t.grid = omega (arith, all) in
    let half = (stands_back t page (7 - c) is on inside (scale_of_many t page many h)).turned not in
    let there = fitted_stands t page (7 - c) is on inside h in
    record {
      turn = ap (λ b. if b then half_turned (turn_in t.grid) else turn_in t.grid) (sym e);
      in_cell = subst (λ n. IsInCell t.room page (cell_at t.room t.grid (row_of t.order t.grid c) (column_of t.order t.grid c)) n (fitted_back t page (7 - c)))
          (ap (λ b. if b then 3 else 0) (sym e))
          (λ p of. half_lies t.room.paper (cell_at t.room t.grid (row_of t.order t.grid c) (column_of t.order t.grid c))
          (cell_at t.room t.grid (row_of t.order t.grid (7 - c)) (column_of t.order t.grid (7 - c))) (past_cell t page)
          (stands page (fitted t page (7 - c)) p) (stands page (fitted_back t page (7 - c)) p)
          (opposite_in t c cells less room.some_wide room.some_high) (nothing_past t page cells not) (there.in_cell p of) (half.across p) (half.up p));
      second = λ f. absurd (cc (e, f));
      first = λ f. half;
    }

in_second : (t : Setting) (page : Paper) (c : ℕ) → AreZineCells t → IsPaper page → IsPaper t.room.paper → why_not_fitted t page ≡ None → c < 8 → nat_lt c 4 ≡ false → LiesInZine t c page (fitted t page c)
in_second t page c cells is on h within e =
    let all = eight_cells t cells in
    let many : 2 ≤ size t.grid = omega (arith, all) in
    let not = one_of_many t page many in
    let there = fitted_stands t page c is on (omega (arith, within, all)) h in
    record {
      turn = ap (λ (i : Item). i.turn) (cond-false (is_whole t page) (page_alone c) (item_in_cell page t.room t.grid t.order (scale_on t page) c) not)
          ∙ ap (λ b. if b then half_turned (turn_in t.grid) else turn_in t.grid) (sym e);
      in_cell = subst (λ n. IsInCell t.room page (cell_at t.room t.grid (row_of t.order t.grid c) (column_of t.order t.grid c)) n (fitted t page c))
          (nothing_past t page cells not ∙ ap (λ b. if b then 3 else 0) (sym e)) there.in_cell;
      second = λ f. there;
      first = λ f. absurd (cc (e, f));
    }

-- ---- all sheets

slot_lies : (b : Bool) (f : Filling) (c : ℕ) (entry : Option ℕ) → AreZineCells f.setting → c < 8 → nat_lt c 4 ≡ b → EntryFits f entry → SlotLiesInZine f.setting c (slot_on f b (half_cell b c) entry)
slot_lies true f c None cells within e has = tt
slot_lies false f c None cells within e has = tt
slot_lies true f c (Some page) cells within e has = in_first f.setting (f.paper_of page) c cells has.page_is has.sheet_is has.fits within e
slot_lies false f c (Some page) cells within e has = in_second f.setting (f.paper_of page) c cells has.page_is has.sheet_is has.fits within e

pub zine_lies_in_cells : ZineLiesInCells
zine_lies_in_cells f row cells fits =
    each_of (λ (sheet : MadeSheet). (c : ℕ) (d : MadeSlot) → c < length sheet.slots → SlotLiesInZine f.setting c (slice_index_or sheet.slots c d)) (λ s. record {
      paper = f.setting.room.paper;
      slots = map (λ c. zine_slot f c (zine_entry row s c)) (range_with_len 0 8);
    }) (blocks 8 (length row)) (λ s less. numbered (SlotLiesInZine f.setting) (λ c. zine_slot f c (zine_entry row s c)) 8
    (λ c within. slot_lies (nat_lt c 4) f c (zine_entry row s c) cells within refl (fits _)))
