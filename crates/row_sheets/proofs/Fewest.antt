-- The scale that is asked for a poster, and the fewest tiles that hold its page.
use Rattle.std.proofs.Common.{arith, ◌≡◌, ◌∙◌, ℕ, suc, ◌+◌, ◌-◌, ◌*◌, ◌/◌, ◌<◌, ◌≤◌, refl, ap}
use Rattle.std.specs.Prelude.{ℤ, pos, negsuc, min, nat_abs, Option}
use Rattle.std.proofs.Math.Nat.{div-mul-le_self, lt-div-mul-add, min-le_left, mul-le-mul_right, suc-mul}
use Rattle.layouts.specs.Grids.{above_zero, scale_for}
use Rattle.row_sheets.specs.Posters.{FewestHold, PosterHasScale, asked_scale, largest_scale, poster_scale, scale_or_one, stride, tile}
use Rattle.row_sheets.proofs.Offsets.{possible}

-- ---- the scale

least : (a b : ℕ) → a ≤ b → min a b ≡ a
least a b h = grind (arith, h)

positive : (s : ℤ) → 1 ≤ above_zero s → pos (above_zero s) ≡ s
positive (pos n) h = refl
positive (negsuc n) h = absurd (omega (arith, h))

pub poster_has_scale : PosterHasScale
poster_has_scale page p s column row is h =
    let has = possible page p h in
    let asked : asked_scale page p ≡ above_zero s = ap (λ (x : Option ℤ). scale_for x (largest_scale page p)) is in
    let some : 1 ≤ above_zero s = let in_range = has.in_range in omega (arith, asked, in_range) in
    ap pos (least (asked_scale page p) (largest_scale page p) has.within ∙ asked) ∙ positive s some

-- ---- the tiles along a side

-- the length that is needed, in 10^-5 of a point, for one in 10^-9 of a grain
abbrev needed : ℕ → ℕ
needed x = (x + 1_269_999_999_999_999) / 1_270_000_000_000_000

abbrev further : (x t d : ℕ) → ℕ
further x t d = (needed x - t + (d - 1)) / d

record Holds (x t d n : ℕ) : Type 0 where
  pub fits : n ≤ 1_024 → x ≤ 1_270_000_000_000_000 * ((n - 1) * d + t)
  pub fewer : (m : ℕ) → 0 < m → m < n → 1_270_000_000_000_000 * ((m - 1) * d + t) < x

enough : (x t d k : ℕ) → 0 < d → k ≡ further x t d → x ≤ 1_270_000_000_000_000 * (k * d + t)
enough x t d k some is =
    let up = lt-div-mul-add {a = x + 1_269_999_999_999_999} {b = 1_270_000_000_000_000} (omega arith) in
    let tiles = lt-div-mul-add {a = needed x - t + (d - 1)} {b = d} some in
    let same : k * d ≡ further x t d * d = ap (λ i. i * d) is in
    omega (arith, up, tiles, same, some)

too_few : (x t d m : ℕ) → 0 < d → 0 < m → m ≤ further x t d → 1_270_000_000_000_000 * ((m - 1) * d + t) < x
too_few x t d m some one few =
    let down = div-mul-le_self (x + 1_269_999_999_999_999) 1_270_000_000_000_000 in
    let tiles = div-mul-le_self (needed x - t + (d - 1)) d in
    let all : suc (m - 1) * d ≤ further x t d * d = mul-le-mul_right d (omega (arith, one, few)) in
    let next = suc-mul (m - 1) d in
    omega (arith, down, tiles, all, next, some)

along : (x t d : ℕ) → 0 < d → Holds x t d (min (further x t d) 1_024 + 1)
along x t d some =
    let k = further x t d in
    let n = min k 1_024 in
    record {
      fits = λ few. enough x t d (n + 1 - 1) some (uncut k few);
      fewer = λ m one less. too_few x t d m some one (omega (arith, less, min-le_left k 1_024));
    }
  where
    uncut : (k : ℕ) → min k 1_024 + 1 ≤ 1_024 → min k 1_024 + 1 - 1 ≡ k
    uncut k few = grind (arith, few)

pub fewest_hold : FewestHold
fewest_hold page p has =
    let s = above_zero (scale_or_one p) in
    let w = nat_abs p.sheet.width in
    let h = nat_abs p.sheet.height in
    let across = along (s * nat_abs page.width) (tile w p.edge) (stride w p.edge p.overlap) (let wide = has.wide in omega (arith, wide)) in
    let up = along (s * nat_abs page.height) (tile h p.edge) (stride h p.edge p.overlap) (let high = has.high in omega (arith, high)) in
    record {
      fits = λ columns rows. record { wide = across.fits columns; high = up.fits rows };
      columns = λ fewer some less. across.fewer fewer some less;
      rows = λ fewer some less. up.fewer fewer some less;
    }
