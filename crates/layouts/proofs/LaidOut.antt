-- A page on a sheet of its own paper, which grid is chosen, and two pages side by side.
use Rattle.std.proofs.Common.{arith, rules, ◌≡◌, ◌⊎◌, inl, inr, ℕ, suc, zero, ◌+◌, ◌-◌, ◌*◌, ◌/◌, ◌<◌, ◌≤◌, Bool, true, false, refl, sym, ap, subst}
use Rattle.std.specs.Prelude.{ℤ, pos, ◌≤ℤ◌, ◌+ℤ◌, ◌*ℤ◌, nat_abs, nat_le, ◌==◌, IsTrue, if◌then◌else◌}
use Rattle.std.proofs.Math.Nat.{le_of_mul-le-mul_left, mul_comm, mul-le-mul_left, lt-div-mul-add, div-mul-le_self, suc-mul}
use Rattle.std.proofs.lemmas.Bool.{cases_lt}
use Rattle.std.proofs.lemmas.Int.{ints}
use Rattle.lengths.proofs.Numbers.{same_byte}
use Rattle.rules.specs.Papers.{Paper}
use Rattle.rules.specs.Specification.{Upright}
use Rattle.layouts.specs.declared.arrangement.Cells.{Cells}
use Rattle.layouts.specs.declared.arrangement.Cells.TheVariants.{AtLeast, Exactly}
use Rattle.layouts.specs.declared.arrangement.Turned.{Turned}
use Rattle.layouts.specs.declared.arrangement.Turned.TheVariants as sideways
use Rattle.layouts.specs.declared.arrangement.Order.{Order}
use Rattle.layouts.specs.Placed.{Room, IsInside, fine, stands}
use Rattle.layouts.specs.Cells.{Grid, size, scale_in, read_columns, read_rows, row_of, column_of}
use Rattle.layouts.specs.Grids.{formed, best_formed, grid_of, cells_per_sheet, beside, page_alone, is_same}
use Rattle.layouts.specs.Laws.{IsPaper, IsNotTiny, Allows, IsExact, IsChosen, IsInCell, IsInMiddle, cell_at}
use Rattle.layouts.proofs.Sides.{of_sides}
use Rattle.layouts.proofs.InGrid.{cells, room_in, both_true, some_each, with_sides}
use Rattle.layouts.proofs.InOrder.{place_fits}
use Rattle.layouts.proofs.BestGrid.{best_has_cells, best_is_best, best_is_large, allowed, formed_is_large}
use Rattle.layouts.proofs.Printing.{placed_exact}

-- ---- which grid

pub some_cells : (r c n : ℕ) → 0 < r → 0 < c → n ≡ r * c → 0 < n
some_cells zero c n some some' e = absurd (omega (arith, some))
some_cells (suc r) zero n some some' e = absurd (omega (arith, some'))
some_cells (suc r) (suc c) n some some' e = omega (arith, e, suc-mul r (suc c))

read_formed : (t : Turned) (b : Bool) (columns rows : ℕ) → (read_columns t (formed t b columns rows) ≡ columns) × (read_rows t (formed t b columns rows) ≡ rows)
read_formed sideways.Upright b columns rows = (refl, refl)
read_formed sideways.Left b columns rows = (refl, refl)
read_formed sideways.Right b columns rows = (refl, refl)

either_read : (t : Turned) (columns rows : ℕ) (b : Bool)
    → (read_columns t (if b then formed t true columns rows else formed t false columns rows) ≡ columns) × (read_rows t (if b then formed t true columns rows else formed t false columns rows) ≡ rows)
either_read t columns rows true = read_formed t true columns rows
either_read t columns rows false = read_formed t false columns rows

pub read_best : (page : Paper) (room : Room) (t : Turned) (columns rows : ℕ) → (read_columns t (best_formed page room t columns rows) ≡ columns) × (read_rows t (best_formed page room t columns rows) ≡ rows)
read_best page room t columns rows = either_read t columns rows _

pub is_chosen : (page : Paper) (room : Room) (t : Turned) (c : Cells) → 0 < cells_per_sheet c → IsChosen page room t c (scale_in page room (grid_of page room t c)) (grid_of page room t c)
is_chosen page room t (AtLeast n) some = (
  best_has_cells page room n some,
  λ h s sides many allows. best_is_large page room n h s sides some many allows,
  λ h many large.
      let best = best_is_best page room n h some many in
      let larger = best.large in
      best.few (omega (arith, large, larger)),
)
is_chosen page room t (Exactly columns rows) some =
    let (some', some'') = some_each columns rows some in
    let read = read_best page room t columns rows in
    (read.0, read.1, λ b s sides allows. formed_is_large page room t columns rows b s some' some'' sides allows)

pub read_square : (t : Turned) (g : Grid) → read_columns t g * read_rows t g ≡ size g
read_square sideways.Upright g = mul_comm g.columns g.rows
read_square sideways.Left g = refl
read_square sideways.Right g = refl

pub enough : (page : Paper) (room : Room) (t : Turned) (c : Cells) → 0 < cells_per_sheet c → cells_per_sheet c ≤ size (grid_of page room t c)
enough page room t (AtLeast n) some = best_has_cells page room n some
enough page room t (Exactly columns rows) some =
    let read = read_best page room t columns rows in
    let g = best_formed page room t columns rows in
    let one : columns * rows ≡ read_columns t g * rows = ap (λ m. m * rows) (sym read.0) in
    let two : read_columns t g * rows ≡ read_columns t g * read_rows t g = ap (λ m. read_columns t g * m) (sym read.1) in
    omega (arith, one, two, read_square t g)

-- ---- a page alone on a sheet of its paper

at_most_one : (s w h w' h' : ℕ) → 0 < w → 0 < h → s * w ≤ 1_000_000_000 * w' → s * h ≤ 1_000_000_000 * h' → ((w' ≡ w) × (h' ≡ h)) ⊎ ((w' ≡ h) × (h' ≡ w)) → s ≤ 1_000_000_000
at_most_one s w h w' h' some_w some_h a b (inl (e, f)) = le_of_mul-le-mul_left {m = s} {n = 1_000_000_000} {k = w} (omega (arith, a, e, mul_comm s w)) some_w
at_most_one s w h w' h' some_w some_h a b (inr (e, f)) = elim (cases_lt w h) [
  | inl less ↦ le_of_mul-le-mul_left {m = s} {n = 1_000_000_000} {k = h} (omega (arith, b, f, less, mul_comm s h)) some_h
  | inr more ↦ le_of_mul-le-mul_left {m = s} {n = 1_000_000_000} {k = w} (omega (arith, a, e, more, mul_comm s w)) some_w
]

pub record SameSides (page sheet : Paper) : Type 0 where
  pub wide : nat_abs page.width ≡ nat_abs sheet.width
  pub high : nat_abs page.height ≡ nat_abs sheet.height

pub same_sides : (page sheet : Paper) → is_same page sheet ≡ true → SameSides page sheet
same_sides page sheet e =
    let (w, h) = both_true (nat_abs page.width == nat_abs sheet.width) (nat_abs page.height == nat_abs sheet.height) e in
    record { wide = same_byte (nat_abs page.width) (nat_abs sheet.width) w; high = same_byte (nat_abs page.height) (nat_abs sheet.height) h }

-- what one more column, or row, takes away
one_of_many : (t w d c W : ℕ) → 0 < c → t * w * c + 1_270_000_000_000_000 * (d * c) ≤ 1_000_000_000 * W + 1_270_000_000_000_000 * d → t * w ≤ 1_000_000_000 * W
one_of_many t w d c W some h =
    let one : t * w * 1 ≤ t * w * c = mul-le-mul_left (t * w) some in
    let gap : d * 1 ≤ d * c = mul-le-mul_left d some in
    omega (arith, h, one, gap)

pub itself_large_at : (page sheet : Paper) (d d' r c : ℕ) (b : Bool) (t : ℕ) → SameSides page sheet → IsNotTiny page (room_in sheet d d') → 0 < r → 0 < c → Allows page (room_in sheet d d') (cells r c b) t
    → t < 1_000_001_000
itself_large_at page sheet d d' r c false t same sides some_r some_c allows =
    let wide = one_of_many t (nat_abs page.width - 2_540_000 * 0) d c (nat_abs sheet.width - 2_540_000 * 0) some_c allows.wide in
    let high = one_of_many t (nat_abs page.height - 2_540_000 * 0) d' r (nat_abs sheet.height - 2_540_000 * 0) some_r allows.high in
    let most = at_most_one t (nat_abs page.width - 2_540_000 * 0) (nat_abs page.height - 2_540_000 * 0) (nat_abs sheet.width - 2_540_000 * 0) (nat_abs sheet.height - 2_540_000 * 0) (omega (arith, sides.0)) (omega (arith, sides.1))
    wide high (inl (ap (λ n. n - 2_540_000 * 0) (sym same.wide), ap (λ n. n - 2_540_000 * 0) (sym same.high))) in
    omega (arith, most)
itself_large_at page sheet d d' r c true t same sides some_r some_c allows =
    let wide = one_of_many t (nat_abs page.width - 2_540_000 * 0) d' c (nat_abs sheet.height - 2_540_000 * 0) some_c allows.wide in
    let high = one_of_many t (nat_abs page.height - 2_540_000 * 0) d r (nat_abs sheet.width - 2_540_000 * 0) some_r allows.high in
    let most = at_most_one t (nat_abs page.width - 2_540_000 * 0) (nat_abs page.height - 2_540_000 * 0) (nat_abs sheet.height - 2_540_000 * 0) (nat_abs sheet.width - 2_540_000 * 0) (omega (arith, sides.0)) (omega (arith, sides.1))
    wide high (inr (ap (λ n. n - 2_540_000 * 0) (sym same.high), ap (λ n. n - 2_540_000 * 0) (sym same.wide))) in
    omega (arith, most)

itself_inside_at : (v u d d' : ℕ) → IsInside (room_in (of_sides v u) d d') (of_sides v u) (page_alone 0)
itself_inside_at v u d d' p of = search (rules, of)

-- the one cell of a sheet is the whole sheet, to 10^-5 of a point
one_cell : (w d : ℕ) → (1_270_000_000_000_000 * ((w - 2_540_000 * 0 + 1_270_000 * d) / (1_270_000 * 1) - d) ≤ 1_000_000_000 * w + 1_270_000_000_000_000)
    × (1_000_000_000 * w ≤ 1_270_000_000_000_000 * ((w - 2_540_000 * 0 + 1_270_000 * d) / (1_270_000 * 1) - d) + 1_270_000_000_000_000)
one_cell w d =
    let most = div-mul-le_self (w - 2_540_000 * 0 + 1_270_000 * d) (1_270_000 * 1) in
    let least = lt-div-mul-add {a = w - 2_540_000 * 0 + 1_270_000 * d} {b = 1_270_000 * 1} (omega arith) in
    (omega (arith, most, least), omega (arith, most, least))

itself_middle_at : (v u d d' : ℕ) (b : Bool) (row column : ℕ) → row < 1 → column < 1 → IsInMiddle (of_sides v u) (cell_at (room_in (of_sides v u) d d') (cells 1 1 b) row column) (page_alone 0)
itself_middle_at v u d d' false zero zero in_rows in_columns =
    let a = one_cell v d in
    let b = one_cell u d' in
    record {
      across = (omega (arith, ints, a.0, a.1), omega (arith, ints, a.0, a.1));
      up = (omega (arith, ints, b.0, b.1), omega (arith, ints, b.0, b.1));
    }
itself_middle_at v u d d' true zero zero in_rows in_columns =
    let a = one_cell v d in
    let b = one_cell u d' in
    record {
      across = (omega (arith, ints, a.0, a.1), omega (arith, ints, a.0, a.1));
      up = (omega (arith, ints, b.0, b.1), omega (arith, ints, b.0, b.1));
    }
itself_middle_at v u d d' b (suc row) column in_rows in_columns = absurd (omega (arith, in_rows))
itself_middle_at v u d d' b zero (suc column) in_rows in_columns = absurd (omega (arith, in_columns))

-- so the page lies in it, to 10^-5 of a point
at_start : (z : ℤ) (l : ℕ) → l ≡ 0 → fine 0 ≤ℤ z → fine l ≤ℤ (z +ℤ fine 1)
at_start z l none h = omega (arith, ints, none, h)

at_end : (z : ℤ) (l n w : ℕ) → 1_000_000_000 * w ≤ 1_270_000_000_000_000 * n + 1_270_000_000_000_000 → (z +ℤ fine 0) ≤ℤ (pos 1_000_000_000 *ℤ pos w) → z ≤ℤ fine (l + n + 1)
at_end z l n w large h = omega (arith, ints, large, h)

itself_cell_at : (v u d d' : ℕ) (b : Bool) (row column : ℕ) → row < 1 → column < 1 → IsInCell (room_in (of_sides v u) d d') (of_sides v u) (cell_at (room_in (of_sides v u) d d') (cells 1 1 b) row column) 1 (page_alone 0)
itself_cell_at v u d d' false zero zero in_rows in_columns p of =
    let cell = cell_at (room_in (of_sides v u) d d') (cells 1 1 false) 0 0 in
    let at = stands (of_sides v u) (page_alone 0) p in
    let lies = itself_inside_at v u d d' p of in
    record {
      left = at_start at.x cell.left (omega arith) lies.left;
      right = at_end at.x cell.left cell.width v (one_cell v d).1 lies.right;
      bottom = at_start at.y cell.bottom (omega arith) lies.bottom;
      top = at_end at.y cell.bottom cell.height u (one_cell u d').1 lies.top;
    }
itself_cell_at v u d d' true zero zero in_rows in_columns p of =
    let cell = cell_at (room_in (of_sides v u) d d') (cells 1 1 true) 0 0 in
    let at = stands (of_sides v u) (page_alone 0) p in
    let lies = itself_inside_at v u d d' p of in
    record {
      left = at_start at.x cell.left (omega arith) lies.left;
      right = at_end at.x cell.left cell.width v (one_cell v d).1 lies.right;
      bottom = at_start at.y cell.bottom (omega arith) lies.bottom;
      top = at_end at.y cell.bottom cell.height u (one_cell u d').1 lies.top;
    }
itself_cell_at v u d d' b (suc row) column in_rows in_columns p of = absurd (omega (arith, in_rows))
itself_cell_at v u d d' b zero (suc column) in_rows in_columns p of = absurd (omega (arith, in_columns))

abbrev ItselfIn : (d d' : ℕ) (b : Bool) (row column : ℕ) → (o q : Paper) → Type 0
ItselfIn d d' b row column o q = SameSides o q → IsInside (room_in q d d') o (page_alone 0) × IsInMiddle o (cell_at (room_in q d d') (cells 1 1 b) row column) (page_alone 0)
    × IsInCell (room_in q d d') o (cell_at (room_in q d d') (cells 1 1 b) row column) 1 (page_alone 0)

itself_at : (v u w h d d' : ℕ) (b : Bool) (row column : ℕ) → row < 1 → column < 1 → ItselfIn d d' b row column (of_sides v u) (of_sides w h)
itself_at v u w h d d' b row column in_rows in_columns same =
    subst (λ m. ItselfIn d d' b row column (of_sides v u) (of_sides m h)) same.wide
    (subst (λ n. ItselfIn d d' b row column (of_sides v u) (of_sides v n)) same.high
    (λ again. (itself_inside_at v u d d', itself_middle_at v u d d' b row column in_rows in_columns, itself_cell_at v u d d' b row column in_rows in_columns)))
    (record { wide = same.wide; high = same.high })

-- one page on a sheet of its paper, whichever way its one cell is held
pub itself_in : (page sheet : Paper) (d d' : ℕ) (b : Bool) (o : Order) → IsPaper page → IsPaper sheet → SameSides page sheet
    → IsInside (room_in sheet d d') page (page_alone 0) × IsInMiddle page (cell_at (room_in sheet d d') (cells 1 1 b) (row_of o (cells 1 1 b) 0) (column_of o (cells 1 1 b) 0)) (page_alone 0)
    × IsInCell (room_in sheet d d') page (cell_at (room_in sheet d d') (cells 1 1 b) (row_of o (cells 1 1 b) 0) (column_of o (cells 1 1 b) 0)) 1 (page_alone 0)
itself_in page sheet d d' b o is on same =
    let g = cells 1 1 b in
    let fit = place_fits o.run o.right_to_left o.turned g 0 (omega arith) in
    with_sides (ItselfIn d d' b (row_of o g 0) (column_of o g 0)) page sheet is on
    (itself_at (nat_abs page.width) (nat_abs page.height) (nat_abs sheet.width) (nat_abs sheet.height) d d' b (row_of o g 0) (column_of o g 0) fit.0 fit.1) same

pub itself_exact : (page : Paper) → IsExact page (page_alone 0)
itself_exact page = placed_exact page Upright 0 1_000_000_000 (pos 0) (pos 0)

pub one_each : (c r : ℕ) → c * r ≡ 1 → (c ≡ 1) × (r ≡ 1)
one_each zero r e = absurd (omega (arith, e))
one_each (suc zero) r e = (refl, omega (arith, e))
one_each (suc (suc c)) zero e = absurd (omega (arith, e))
one_each (suc (suc c)) (suc zero) e = absurd (omega (arith, e))
one_each (suc (suc c)) (suc (suc r)) e = absurd (omega (arith, e))

-- ---- two pages side by side

beside_most : (page : Paper) (room : Room) (b : Bool) → IsTrue (nat_le (scale_in page room (beside false)) (scale_in page room (beside true)))
    → scale_in page room (beside b) ≤ scale_in page room (beside true)
beside_most page room true h = omega arith
beside_most page room false h = search (rules, h)

pub beside_large : (page : Paper) (room : Room) (g : Grid) (t : ℕ) → IsTrue (nat_le (scale_in page room (beside false)) (scale_in page room (beside true))) → IsNotTiny page room → g.rows ≡ 1 → g.columns ≡ 2
    → Allows page room g t → t < scale_in page room (beside true) + 1_000
beside_large page room g t h sides rows columns allows =
    let one : Allows page room (beside g.turned) t =
    subst (λ r. Allows page room (record { rows = r; columns = 2; turned = g.turned }) t) rows (subst (λ c. Allows page room (record { rows = g.rows; columns = c; turned = g.turned }) t) columns allows) in
    omega (arith, allowed page room (beside g.turned) t sides (omega arith) (omega arith) one, beside_most page room g.turned h)
