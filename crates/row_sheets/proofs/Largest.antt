-- The page of a poster is as large as its tiles allow, and in their middle.
use Rattle.std.proofs.Common.{arith, ◌≡◌, ℕ, suc, zero, ◌+◌, ◌-◌, ◌*◌, ◌<◌, ◌≤◌, inl, inr, ap, sym, subst, ◌∙◌}
use Rattle.std.specs.Prelude.{min, Option, ℤ, pos, negsuc, nat_abs, IsTrue}
use Rattle.std.proofs.Math.Nat.{lt-div-mul-add, mul-le-mul_left, mul-le-mul_right, suc-mul}
use Rattle.std.proofs.lemmas.Bool.{cases_lt}
use Rattle.std.proofs.lemmas.Int.{ints}
use Rattle.rules.specs.Papers.{Paper, is_side}
use Rattle.layouts.specs.Cells.{fitting, slack}
use Rattle.layouts.specs.Grids.{scale_for}
use Rattle.layouts.specs.Laws.{IsInMiddle, IsMean, IsPaper}
use Rattle.layouts.proofs.AlongSide.{in_cell, in_middle, scaled_fits}
use Rattle.layouts.proofs.Sides.{of_sides}
use Rattle.layouts.proofs.InGrid.{both_true, sides_are}
use Rattle.row_sheets.specs.declared.poster.Poster.{Poster}
use Rattle.row_sheets.specs.Posters.{PosterIsInMiddle, PosterIsLarge, exact_length, tiles_length, poster_cell, poster_height, poster_scale, poster_width, stride, tile, tile_item}
use Rattle.row_sheets.proofs.Tiles.{fits_height, fits_width}

-- ---- as large as its tiles

-- no larger scale brings a side into so many 10^-5 of a point
no_larger : (length side scale : ℕ) → 0 < side → scale * side ≤ 1_270_000_000_000_000 * length → scale ≤ fitting length side
no_larger length side scale some fits = elim (cases_lt (fitting length side) scale) [
  | inl less ↦
      let more : suc (fitting length side) * side ≤ scale * side = mul-le-mul_right side (omega (arith, less)) in
      absurd (omega (arith, more, fits, suc-mul (fitting length side) side, lt-div-mul-add {a = 1_270_000_000_000_000 * length} {b = side} some))
  | inr enough ↦ enough
]

both_least : (a b s : ℕ) → s ≤ a → s ≤ b → s ≤ min a b
both_least a b s h i = grind (arith, h, i)

-- so many tiles in exact parts of their sheets are longer by less than 10^-5 of a point for each
little_longer : (side edge overlap tiles : ℕ) → 0 < tiles → overlap < tile side edge
    → exact_length side edge overlap tiles < 1_270_000_000_000_000 * tiles_length side edge overlap tiles + 1_270_000_000_000_000 * tiles
little_longer side edge overlap tiles some longer =
    let cut = lt-div-mul-add {a = side} {b = 1_270_000} (omega arith) in
    let m = tiles - 1 in
    let p = stride side edge overlap in
    let one : 1_000_000_000 * side - 1_270_000_000_000_000 * (2 * edge + overlap) ≤ 1_270_000_000_000_000 * p + 1_270_000_000_000_000 = omega (arith, cut, longer) in
    let last : 1_000_000_000 * side - 1_270_000_000_000_000 * (2 * edge) < 1_270_000_000_000_000 * tile side edge + 1_270_000_000_000_000 = omega (arith, cut, longer) in
    let all : m * (1_000_000_000 * side - 1_270_000_000_000_000 * (2 * edge + overlap)) ≤ m * (1_270_000_000_000_000 * p + 1_270_000_000_000_000) = mul-le-mul_left m one in
    let is : m * (1_270_000_000_000_000 * p + 1_270_000_000_000_000) ≡ 1_270_000_000_000_000 * (m * p) + 1_270_000_000_000_000 * m = parts m p in
    omega (arith, some, last, all, is)
  where
    parts : (m p : ℕ) → m * (1_270_000_000_000_000 * p + 1_270_000_000_000_000) ≡ 1_270_000_000_000_000 * (m * p) + 1_270_000_000_000_000 * m
    parts m p = grind arith

-- along a side of 11 points or more
allowed : (length n side scale exact : ℕ) → 0 < n → 1_397_000_000_000 ≤ side → scale * side ≤ exact → exact < 1_270_000_000_000_000 * length + 1_270_000_000_000_000 * n
    → scale < fitting length side + 1_000 * n
allowed length n side scale exact some large allows little = elim (cases_lt scale (fitting length side + 1_000 * n)) [
  | inl less ↦ less
  | inr more ↦
      let f = fitting length side in
      let all : (f + 1_000 * n) * side ≤ scale * side = mul-le-mul_right side more in
      let is : (f + 1_000 * n) * side ≡ f * side + 1_000 * (n * side) = parts f n side in
      let most = lt-div-mul-add {a = 1_270_000_000_000_000 * length} {b = side} (omega (arith, large)) in
      let least : n * 1_397_000_000_000 ≤ n * side = mul-le-mul_left n large in
      let one : 1 * side ≤ n * side = mul-le-mul_right side (omega (arith, some)) in
      absurd (omega (arith, all, is, most, least, one, allows, little))
]
  where
    parts : (f n side : ℕ) → (f + 1_000 * n) * side ≡ f * side + 1_000 * (n * side)
    parts f n side = grind arith

both_below : (a b s c r : ℕ) → s < a + 1_000 * c → s < b + 1_000 * r → s < min a b + 1_000 * (c + r)
both_below a b s c r h i = elim (cases_lt a b) [
  | inl less ↦ let is : min a b ≡ a = grind (arith, less) in omega (arith, is, h)
  | inr more ↦ let is : min a b ≡ b = grind (arith, more) in omega (arith, is, i)
]

some_side : (page : Paper) → IsPaper page → (0 < nat_abs page.width) × (0 < nat_abs page.height)
some_side page is =
    let both = both_true (is_side page.width) (is_side page.height) is in
    (above_zero page.width both.0, above_zero page.height both.1)
  where
    above_zero : (z : ℤ) → IsTrue (is_side z) → 0 < nat_abs z
    above_zero (pos zero) h = absurd (cc (h))
    above_zero (pos (suc n)) h = omega arith
    above_zero (negsuc n) h = absurd (cc (h))

least_of_one : (n : ℕ) → min n n ≡ n
least_of_one n = grind arith

pub poster_is_large : PosterIsLarge
poster_is_large page p is =
    let v = nat_abs page.width in
    let u = nat_abs page.height in
    let a = fitting (poster_width p) v in
    let b = fitting (poster_height p) u in
    let some = some_side page is in
    record {
      fits = record {
        wide = scaled_fits (poster_width p) v (poster_scale page p) (fits_width page p);
        high = scaled_fits (poster_height p) u (poster_scale page p) (fits_height page p);
      };
      unasked = λ none. ap (λ (asked : Option ℤ). min (scale_for asked (min a b)) (min a b)) none ∙ least_of_one (min a b);
      largest = λ s h. both_least a b s (no_larger (poster_width p) v s some.0 h.wide) (no_larger (poster_height p) u s some.1 h.high);
      large = λ s tiny has h. both_below a b s p.columns p.rows
          (allowed (poster_width p) p.columns v s (exact_length (nat_abs p.sheet.width) p.edge p.overlap p.columns) has.some_columns tiny.wide h.wide
          (little_longer (nat_abs p.sheet.width) p.edge p.overlap p.columns has.some_columns has.wide))
          (allowed (poster_height p) p.rows u s (exact_length (nat_abs p.sheet.height) p.edge p.overlap p.rows) has.some_rows tiny.high h.high
          (little_longer (nat_abs p.sheet.height) p.edge p.overlap p.rows has.some_rows has.high));
    }

-- ---- in the middle

abbrev InMiddleIf : Poster → Paper → Type 0
InMiddleIf p o = IsInMiddle o (poster_cell p) (tile_item o p 0 0)

along : (length edge side s : ℕ) → s ≤ fitting length side
    → IsMean (2 * edge + length) (pos (1_270_000_000_000_000 * (edge + slack length side s))) (pos (1_270_000_000_000_000 * (edge + slack length side s) + s * side))
along length edge side s fits =
    let all = scaled_fits length side s fits in
    let most = in_cell length side s all in
    let least = in_middle length side s all in
    (omega (arith, ints, most, least), omega (arith, ints, most, least))

pub poster_is_in_middle : PosterIsInMiddle
poster_is_in_middle page p is =
    subst (InMiddleIf p) (sym (sides_are page is)) (middle (nat_abs page.width) (nat_abs page.height))
  where
    middle : (v u : ℕ) → InMiddleIf p (of_sides v u)
    middle v u =
        let s = poster_scale (of_sides v u) p in
        let across = along (poster_width p) p.edge v s (fits_width (of_sides v u) p) in
        let up = along (poster_height p) p.edge u s (fits_height (of_sides v u) p) in
        let a0 = across.0 in let a1 = across.1 in let b0 = up.0 in let b1 = up.1 in
        record {
          across = (omega (arith, ints, a0), omega (arith, ints, a1));
          up = (omega (arith, ints, b0), omega (arith, ints, b1));
        }
