-- Tiles of a poster.
use Rattle.std.proofs.Common.{arith, ◌≡◌, inl, inr, ℕ, suc, ◌+◌, ◌-◌, ◌*◌, ◌/◌, ◌<◌, ◌≤◌, sym, ap, subst}
use Rattle.std.specs.Prelude.{ℤ, pos, negsuc, min, nat_abs}
use Rattle.std.proofs.Math.Nat.{lt-div-mul-add, div-mul-le_self, suc-mul, mul-le-mul_left, mul-le-mul_right, min-le_left, min-le_right, mul_left_comm}
use Rattle.std.proofs.lemmas.Bool.{cases_lt}
use Rattle.std.proofs.lemmas.Int.{ints}
use Rattle.rules.specs.Papers.{Paper}
use Rattle.layouts.specs.Placed.{stands, IsOfPage}
use Rattle.layouts.specs.Cells.{fitting, slack}
use Rattle.layouts.proofs.AlongSide.{scaled_fits, in_cell}
use Rattle.layouts.proofs.Sides.{of_sides, point}
use Rattle.layouts.proofs.InGrid.{sides_are}
use Rattle.row_sheets.specs.declared.poster.Poster.{Poster}
use Rattle.row_sheets.specs.Posters.{tile, stride, asked_scale, poster_width, poster_height, poster_scale, tile_item, IsShown, HasTiles, PosterCovers, TilesOverlap}

-- ---- a point along a side

record OnTile (P d t n : ℕ) : Type 0 where
  pub at : ℕ
  pub less : at < n
  pub from : 1_270_000_000_000_000 * (at * d) ≤ P
  pub to : P ≤ 1_270_000_000_000_000 * (at * d + t)

-- the tile on which it is shown
on_tile : (P d t n : ℕ) → 0 < d → d ≤ t → 0 < n → P ≤ 1_270_000_000_000_000 * ((n - 1) * d + t) → OnTile P d t n
on_tile P d t n some short many most =
    let q = P / (1_270_000_000_000_000 * d) in
    let from : q * (1_270_000_000_000_000 * d) ≤ P = div-mul-le_self P (1_270_000_000_000_000 * d) in
    let to : P < q * (1_270_000_000_000_000 * d) + 1_270_000_000_000_000 * d = lt-div-mul-add {a = P} {b = 1_270_000_000_000_000 * d} (omega (arith, some)) in
    let same : q * (1_270_000_000_000_000 * d) ≡ 1_270_000_000_000_000 * (q * d) = mul_left_comm q 1_270_000_000_000_000 d in
    elim (cases_lt q n) [
      | inl less ↦ record { at = q; less = less; from = omega (arith, from, same); to = omega (arith, to, same, short) }
      | inr more ↦
          let last : (n - 1) * d ≤ q * d = mul-le-mul_right d (omega (arith, more, many)) in
          record { at = n - 1; less = omega (arith, many); from = omega (arith, from, same, last); to = most }
    ]

-- a point of the page along a side
along : (length side s a : ℕ) → s ≤ fitting length side → a ≤ side → 1_270_000_000_000_000 * slack length side s + s * a ≤ 1_270_000_000_000_000 * length
along length side s a fits in_page =
    omega (arith, in_cell length side s (scaled_fits length side s fits), mul-le-mul_left s in_page)

-- the page fits the tiles at its scale, along both sides
pub fits_width : (page : Paper) (p : Poster) → poster_scale page p ≤ fitting (poster_width p) (nat_abs page.width)
fits_width page p =
    let a = fitting (poster_width p) (nat_abs page.width) in
    let b = fitting (poster_height p) (nat_abs page.height) in
    omega (arith, min-le_right (asked_scale page p) (min a b), min-le_left a b)

pub fits_height : (page : Paper) (p : Poster) → poster_scale page p ≤ fitting (poster_height p) (nat_abs page.height)
fits_height page p =
    let a = fitting (poster_width p) (nat_abs page.width) in
    let b = fitting (poster_height p) (nat_abs page.height) in
    omega (arith, min-le_right (asked_scale page p) (min a b), min-le_right a b)

covers_at : (v u : ℕ) (p : Poster) (a b : ℤ) → HasTiles p → IsOfPage 0 (of_sides v u) (point a b)
    → (column row : ℕ) × (column < p.columns) × (row < p.rows) × IsShown p (stands (of_sides v u) (tile_item (of_sides v u) p column row) (point a b))
covers_at v u p (pos a) (pos b) has of =
    let page = of_sides v u in
    let s = poster_scale page p in
    let w = nat_abs p.sheet.width in
    let h = nat_abs p.sheet.height in
    let in_width : a ≤ v = let f = of.right in omega (arith, ints) in
    let in_height : b ≤ u = let f = of.top in omega (arith, ints) in
    let across = along (poster_width p) v s a (fits_width page p) in_width in
    let up = along (poster_height p) u s b (fits_height page p) in_height in
    let wide = has.wide in let high = has.high in
    let column = on_tile (1_270_000_000_000_000 * slack (poster_width p) v s + s * a) (stride w p.edge p.overlap) (tile w p.edge) p.columns (omega (arith, wide)) (omega arith) has.some_columns across in
    let row = on_tile (1_270_000_000_000_000 * slack (poster_height p) u s + s * b) (stride h p.edge p.overlap) (tile h p.edge) p.rows (omega (arith, high)) (omega arith) has.some_rows up in
    let left = column.from in let right = column.to in let bottom = row.from in let top = row.to in (
      column.at,
      row.at,
      column.less,
      row.less,
      record {
        left = omega (arith, ints, left);
        right = omega (arith, ints, right);
        bottom = omega (arith, ints, bottom);
        top = omega (arith, ints, top);
      },
    )
covers_at v u p (negsuc a) b has of = absurd (let f = of.left in omega (arith, ints))
covers_at v u p (pos a) (negsuc b) has of = absurd (let f = of.bottom in omega (arith, ints))

abbrev CoversIf : (p : Poster) (a b : ℤ) → Paper → Type 0
CoversIf p a b o = IsOfPage 0 o (point a b)
    → (column row : ℕ) × (column < p.columns) × (row < p.rows) × IsShown p (stands o (tile_item o p column row) (point a b))

pub poster_covers : PosterCovers
poster_covers page p at is has of =
    subst (CoversIf p at.x at.y) (sym (sides_are page is)) (λ here. covers_at (nat_abs page.width) (nat_abs page.height) p at.x at.y has here) of

-- ---- neighbours

next_one : (n d : ℕ) → (n + 1) * d ≡ n * d + d
next_one n d = let one : n + 1 ≡ suc n = omega arith in omega (arith, ap (λ k. k * d) one, suc-mul n d)

pub tiles_overlap : TilesOverlap
tiles_overlap page p column row at has =
    let w = nat_abs p.sheet.width in
    let h = nat_abs p.sheet.height in
    let wide = has.wide in let high = has.high in (
      omega (arith, ints, next_one column (stride w p.edge p.overlap), wide),
      omega (arith, ints, next_one row (stride h p.edge p.overlap), high),
    )
