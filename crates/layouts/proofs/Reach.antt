-- How far pages are moved can be printed.
use Rattle.std.proofs.Common.{arith, ◌≡◌, ℕ, ◌+◌, ◌-◌, ◌<◌, ◌≤◌, Bool, true, false, ap, ◌∙◌}
use Rattle.std.specs.Prelude.{ℤ, pos, ◌+ℤ◌, ◌-ℤ◌, nat_abs, IsTrue, nat_lt, if◌then◌else◌}
use Rattle.std.proofs.lemmas.Bool.{ltb-true}
use Rattle.std.proofs.lemmas.Int.{ints}
use Rattle.rules.specs.Papers.{Paper}
use Rattle.rules.specs.Specification.{Item, Measure, Turn}
use Rattle.layouts.specs.declared.arrangement.Order.{Order}
use Rattle.layouts.specs.Placed.{Room}
use Rattle.layouts.specs.Cells.{Grid, along_height, along_width, trimmed_side, size, corner_x, corner_y, to_right, to_top, trimmed, whole_parts, row_of, column_of}
use Rattle.layouts.specs.Refusals.{within_reach}
use Rattle.layouts.specs.Laws.{HasPlace}
use Rattle.layouts.proofs.AlongSide.{in_side, in_side_back}
use Rattle.layouts.proofs.InGrid.{cells, fits, both_true}
use Rattle.layouts.proofs.InOrder.{place_fits}

-- the corners of what counts of pages lie on the sheet
pub record CornerFits (page : Paper) (room : Room) (g : Grid) (s row column : ℕ) : Type 0 where
  pub across : corner_x page room g s row column ≤ whole_parts (nat_abs room.paper.width)
  pub up : corner_y page room g s row column ≤ whole_parts (nat_abs room.paper.height)

corner_at : (page : Paper) (room : Room) (r c : ℕ) (b : Bool) (s row column : ℕ) → HasPlace page room (cells r c b) s → row < r → column < c → CornerFits page room (cells r c b) s row column
corner_at page room r c false s row column place in_rows in_columns =
    let f = fits page room (cells r c false) s place in
    record {
      across = omega (arith, in_side (along_width room) (nat_abs room.paper.width) c (trimmed_side room page.width) s column f.some_wide f.is_wide in_columns);
      up = omega (arith, in_side (along_height room) (nat_abs room.paper.height) r (trimmed_side room page.height) s (r - (row + 1)) f.some_high f.is_high (omega (arith, in_rows)));
    }
corner_at page room r c true s row column place in_rows in_columns =
    let f = fits page room (cells r c true) s place in
    record {
      across = omega (arith, in_side_back (along_width room) (nat_abs room.paper.width) r (trimmed_side room page.height) s row f.some_high f.is_high in_rows);
      up = omega (arith, in_side (along_height room) (nat_abs room.paper.height) c (trimmed_side room page.width) s column f.some_wide f.is_wide in_columns);
    }

pub corner_fits : (page : Paper) (room : Room) (g : Grid) (s row column : ℕ) → HasPlace page room g s → row < g.rows → column < g.columns → CornerFits page room g s row column
corner_fits page room g s row column place in_rows in_columns = corner_at page room g.rows g.columns g.turned s row column place in_rows in_columns

-- and so are those of whole pages within reach
pub record ShiftFits (page : Paper) (room : Room) (g : Grid) (s row column : ℕ) : Type 0 where
  pub across : nat_abs (to_right page room g s row column) ≤ 9_999_999_999
  pub up : nat_abs (to_top page room g s row column) ≤ 9_999_999_999
  pub back_across : nat_abs (pos (whole_parts (nat_abs room.paper.width)) -ℤ to_right page room g s row column) ≤ 9_999_999_999
  pub back_up : nat_abs (pos (whole_parts (nat_abs room.paper.height)) -ℤ to_top page room g s row column) ≤ 9_999_999_999

moved_back : (a back most : ℕ) → a ≤ most → most + back < 10_000_000_000 → (nat_abs (pos a -ℤ pos back) ≤ 9_999_999_999) × (nat_abs (pos most -ℤ (pos a -ℤ pos back)) ≤ 9_999_999_999)
moved_back a back most h near = (omega (arith, ints, h, near), omega (arith, ints, h, near))

moved_on : (a back most : ℕ) → a ≤ most → most + back < 10_000_000_000 → (nat_abs (pos a +ℤ pos back) ≤ 9_999_999_999) × (nat_abs (pos most -ℤ (pos a +ℤ pos back)) ≤ 9_999_999_999)
moved_on a back most h near = (omega (arith, ints, h, near), omega (arith, ints, h, near))

shift_at : (page : Paper) (room : Room) (r c : ℕ) (b : Bool) (s row column : ℕ) → CornerFits page room (cells r c b) s row column
    → whole_parts (nat_abs room.paper.width) + trimmed room s < 10_000_000_000 → whole_parts (nat_abs room.paper.height) + trimmed room s < 10_000_000_000 → ShiftFits page room (cells r c b) s row column
shift_at page room r c false s row column h wide high =
    let across = moved_back (corner_x page room (cells r c false) s row column) (trimmed room s) (whole_parts (nat_abs room.paper.width)) h.across wide in
    let up = moved_back (corner_y page room (cells r c false) s row column) (trimmed room s) (whole_parts (nat_abs room.paper.height)) h.up high in
    record { across = across.0; up = up.0; back_across = across.1; back_up = up.1 }
shift_at page room r c true s row column h wide high =
    let across = moved_on (corner_x page room (cells r c true) s row column) (trimmed room s) (whole_parts (nat_abs room.paper.width)) h.across wide in
    let up = moved_back (corner_y page room (cells r c true) s row column) (trimmed room s) (whole_parts (nat_abs room.paper.height)) h.up high in
    record { across = across.0; up = up.0; back_across = across.1; back_up = up.1 }

pub shift_fits : (page : Paper) (room : Room) (g : Grid) (o : Order) (s k : ℕ) → HasPlace page room g s → IsTrue (within_reach room s) → k < size g
    → ShiftFits page room g s (row_of o g k) (column_of o g k)
shift_fits page room g o s k place near within =
    let fit = place_fits o.run o.right_to_left o.turned g k within in
    let (across, up) = both_true (nat_lt (whole_parts (nat_abs room.paper.width) + trimmed room s) 10_000_000_000) (nat_lt (whole_parts (nat_abs room.paper.height) + trimmed room s) 10_000_000_000) near in
    shift_at page room g.rows g.columns g.turned s (row_of o g k) (column_of o g k)
    (corner_fits page room g s (row_of o g k) (column_of o g k) place fit.0 fit.1)
    (ltb-true (whole_parts (nat_abs room.paper.width) + trimmed room s) 10_000_000_000 across) (ltb-true (whole_parts (nat_abs room.paper.height) + trimmed room s) 10_000_000_000 up)

-- how far a page is moved, from its corner
pub right_is : (page : Paper) (room : Room) (g : Grid) (s row column row' column' x back : ℕ) → x ≡ corner_x page room g s row column → row ≡ row' → column ≡ column' → back ≡ trimmed room s
    → (if g.turned then pos x +ℤ pos back else pos x -ℤ pos back) ≡ to_right page room g s row' column'
right_is page room g s row column row' column' x back e rows columns f =
    ap (λ m. if g.turned then pos m +ℤ pos back else pos m -ℤ pos back) (e ∙ (ap (λ m. corner_x page room g s m column) rows ∙ ap (λ m. corner_x page room g s row' m) columns))
    ∙ ap (λ b. if g.turned then pos (corner_x page room g s row' column') +ℤ pos b else pos (corner_x page room g s row' column') -ℤ pos b) f

pub top_is : (page : Paper) (room : Room) (g : Grid) (s row column row' column' y back : ℕ) → y ≡ corner_y page room g s row column → row ≡ row' → column ≡ column' → back ≡ trimmed room s
    → pos y -ℤ pos back ≡ to_top page room g s row' column'
top_is page room g s row column row' column' y back e rows columns f =
    ap (λ m. pos m -ℤ pos back) (e ∙ (ap (λ m. corner_y page room g s m column) rows ∙ ap (λ m. corner_y page room g s row' m) columns))
    ∙ ap (λ b. pos (corner_y page room g s row' column') -ℤ pos b) f

-- an item is one with the same parts
abbrev parts : (k : ℕ) (t : Turn) (scale : ℤ) (x y : Measure) → Item
parts k t scale x y = record { page = k; from_end = false; turn = t; scale = scale; x = x; y = y }

pub parts_are : (k : ℕ) (t t' : Turn) (scale scale' : ℤ) (x x' y y' : Measure) → t ≡ t' → scale ≡ scale' → x ≡ x' → y ≡ y' → parts k t scale x y ≡ parts k t' scale' x' y'
parts_are k t t' scale scale' x x' y y' turn is right top =
    ap (λ z. parts k z scale x y) turn ∙ (ap (λ z. parts k t' z x y) is ∙ (ap (λ z. parts k t' scale' z y) right ∙ ap (λ z. parts k t' scale' x' z) top))
