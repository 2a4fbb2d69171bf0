-- Where tiles are can be written.
use Rattle.std.proofs.Common.{arith, ◌≡◌, ℕ, ◌+◌, ◌-◌, ◌*◌, ◌/◌, ◌%◌, ◌<◌, ◌≤◌, Bool, true, false, Option, Some, None, refl}
use Rattle.std.specs.Prelude.{nat_abs, nat_le, nat_lt, ◌&&◌, if◌then◌else◌}
use Rattle.std.proofs.Math.Nat.{div-mul-le_self, mul-le-mul_right}
use Rattle.std.proofs.lemmas.Bool.{leb-true, ltb-true}
use Rattle.rules.specs.Papers.{Paper}
use Rattle.layouts.specs.Cells.{slack, whole_parts}
use Rattle.layouts.specs.Refusals.{greatest_scale, is_paper_reached, is_scale_in_range}
use Rattle.layouts.proofs.InGrid.{both_true}
use Rattle.layouts.proofs.InOrder.{along_rows}
use Rattle.row_sheets.specs.declared.poster.Poster.{Poster}
use Rattle.row_sheets.specs.declared.poster.PosterError.{PosterError}
use Rattle.row_sheets.specs.declared.poster.PosterError.TheVariants as why
use Rattle.row_sheets.specs.Posters.{tile, stride, tiles_length, asked_scale, largest_scale, poster_width, poster_height, poster_scale, why_no_poster, laid_of, IsNear}

-- tile n of a poster is one of its tiles
pub tile_in : (r c n : ℕ) → n < r * c → (n % c < c) × (r - (n / c + 1) < r)
tile_in r c n h =
    let at = along_rows r c n h in
    (at.1, omega (arith, at.0))

passed_if : (b : Bool) (x : Option PosterError) (e : PosterError) → (if b then x else Some e) ≡ None → (b ≡ true) × (x ≡ None)
passed_if true x e h = (refl, h)
passed_if false x e h = absurd (cc (h))

-- what holds of a poster that nothing refuses
pub record Possible (page : Paper) (p : Poster) : Type 0 where
  pub some : 1 ≤ p.rows * p.columns
  pub reached : (nat_abs p.sheet.width < 12_700_000_000_000_000) × (nat_abs p.sheet.height < 12_700_000_000_000_000)
  pub longer : (p.overlap < tile (nat_abs p.sheet.width) p.edge) × (p.overlap < tile (nat_abs p.sheet.height) p.edge)
  pub short : (poster_width p < 10_000_000_000) × (poster_height p < 10_000_000_000)
  pub in_range : 1 ≤ asked_scale page p
  pub within : asked_scale page p ≤ largest_scale page p

both_less : (a b c d : ℕ) → nat_lt a b && nat_lt c d ≡ true → (a < b) × (c < d)
both_less a b c d h = let both = both_true (nat_lt a b) (nat_lt c d) h in (ltb-true a b both.0, ltb-true c d both.1)

pub possible : (page : Paper) (p : Poster) → why_no_poster page p ≡ None → Possible page p
possible page p h =
    let w = nat_abs p.sheet.width in
    let t = nat_abs p.sheet.height in
    let a = passed_if (nat_le 1 (p.rows * p.columns) && nat_le (p.rows * p.columns) 1_024) _ why.TilesOutOfRange h in
    let b = passed_if (is_paper_reached p.sheet) _ why.SideTooLong a.1 in
    let c = passed_if (nat_lt p.overlap (tile w p.edge) && nat_lt p.overlap (tile t p.edge)) _ why.NothingButOverlap b.1 in
    let d = passed_if (nat_lt (poster_width p) 10_000_000_000 && nat_lt (poster_height p) 10_000_000_000) _ why.SideTooLong c.1 in
    let e = passed_if (is_scale_in_range (asked_scale page p)) _ why.ScaleOutOfRange d.1 in
    let f = passed_if (nat_le (asked_scale page p) (largest_scale page p)) _ why.ScaleTooLarge e.1 in
    let range = both_true (nat_le 1 (asked_scale page p)) (nat_le (asked_scale page p) greatest_scale) e.0 in
    let count = both_true (nat_le 1 (p.rows * p.columns)) (nat_le (p.rows * p.columns) 1_024) a.0 in
    record {
      some = leb-true 1 (p.rows * p.columns) count.0;
      reached = both_less w 12_700_000_000_000_000 t 12_700_000_000_000_000 b.0;
      longer = both_less p.overlap (tile w p.edge) p.overlap (tile t p.edge) c.0;
      short = both_less (poster_width p) 10_000_000_000 (poster_height p) 10_000_000_000 d.0;
      in_range = leb-true 1 (asked_scale page p) range.0;
      within = leb-true (asked_scale page p) (largest_scale page p) f.0;
    }

-- along a side
near_side : (w edge overlap tiles side s column : ℕ) → w < 12_700_000_000_000_000 → overlap < tile w edge → tiles_length w edge overlap tiles < 10_000_000_000 → column < tiles
    → (edge + slack (tiles_length w edge overlap tiles) side s < 10_000_000_000) × (column * stride w edge overlap < 10_000_000_000)
near_side w edge overlap tiles side s column reached some short within =
    let l = tiles_length w edge overlap tiles in
    let half : slack l side s * 2_540_000_000_000_000 ≤ 1_270_000_000_000_000 * l - s * side = div-mul-le_self (1_270_000_000_000_000 * l - s * side) 2_540_000_000_000_000 in
    let cut : whole_parts w * 1_270_000 ≤ w = div-mul-le_self w 1_270_000 in
    let steps : column * stride w edge overlap ≤ (tiles - 1) * stride w edge overlap = mul-le-mul_right (stride w edge overlap) (omega (arith, within)) in
    let half' : slack l side s < 5_000_000_000 = omega (arith, half, short) in
    let edge' : edge < 5_000_000_000 = omega (arith, reached, some, cut) in
    (omega (arith, half', edge'), omega (arith, steps, short))

pub tile_near : (page : Paper) (p : Poster) (column row : ℕ) → why_no_poster page p ≡ None → column < p.columns → row < p.rows → IsNear (laid_of page p) column row
tile_near page p column row h in_columns in_rows =
    let has = possible page p h in
    let across = near_side (nat_abs p.sheet.width) p.edge p.overlap p.columns (nat_abs page.width) (poster_scale page p) column has.reached.0 has.longer.0 has.short.0 in_columns in
    let up = near_side (nat_abs p.sheet.height) p.edge p.overlap p.rows (nat_abs page.height) (poster_scale page p) row has.reached.1 has.longer.1 has.short.1 in_rows in
    (across.0, across.1, up.0, up.1)
