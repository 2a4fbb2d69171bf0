-- A poster fits the paper that is its size, and is hardly smaller.
use Rattle.std.proofs.Common.{arith, ℕ, suc, zero, ◌+◌, ◌*◌, ◌/◌, ◌<◌, ◌≤◌, ◌⊎◌, inl, inr, Bool, true, false}
use Rattle.std.specs.Prelude.{min, max, ℤ, pos, negsuc, nat_abs, nat_lt, IsTrue, if◌then◌else◌}
use Rattle.std.proofs.Math.Nat.{div-mul-le_self, lt-div-mul-add, mul-le-mul_right, suc-mul}
use Rattle.std.proofs.lemmas.Bool.{cases_lt}
use Rattle.rules.specs.Numbers.{greatest_number}
use Rattle.rules.specs.Papers.{Paper, is_side}
use Rattle.layouts.specs.Laws.{IsPaper}
use Rattle.layouts.proofs.InGrid.{both_true}
use Rattle.impose_cli.specs.PosterSizes.{FitsOn, IsWithin, PosterIsOfSize, exact_scale, in_percent, scale_along, scale_on, scale_within, sheets_at}

-- a side isn't longer than that at a scale that isn't larger
is_short : (n side s : ℕ) → s ≤ n / side → s * side ≤ n
is_short n side s h = omega (arith, mul-le-mul_right side h, div-mul-le_self n side)

no_larger : (n side s : ℕ) → 0 < side → s * side ≤ n → s ≤ n / side
no_larger n side s some fits = elim (cases_lt (n / side) s) [
  | inl less ↦
      let more : suc (n / side) * side ≤ s * side = mul-le-mul_right side (omega (arith, less)) in
      absurd (omega (arith, more, fits, suc-mul (n / side) side, lt-div-mul-add {a = n} {b = side} some))
  | inr enough ↦ enough
]

below_both : (a b s : ℕ) → s ≤ min a b → (s ≤ a) × (s ≤ b)
below_both a b s h = (grind (arith, h), grind (arith, h))

both_below : (a b s : ℕ) → s ≤ a → s ≤ b → s ≤ min a b
both_below a b s h i = grind (arith, h, i)

below_one : (a b s : ℕ) → s ≤ max a b → (s ≤ a) ⊎ (s ≤ b)
below_one a b s h = elim (cases_lt a b) [
  | inl less ↦ inr (grind (arith, less, h))
  | inr more ↦ inl (grind (arith, more, h))
]

one_below : (a b s : ℕ) → (s ≤ a) ⊎ (s ≤ b) → s ≤ max a b
one_below a b s (inl h) = grind (arith, h)
one_below a b s (inr h) = grind (arith, h)

is_within : (width height : ℤ) (page : Paper) (s : ℕ) → s ≤ scale_within width height page → IsWithin width height page s
is_within width height page s h =
    let both = below_both (scale_along width page.width) (scale_along height page.height) s h in record {
      wide = is_short (1_000_000_000 * nat_abs width) (nat_abs page.width) s both.0;
      high = is_short (1_000_000_000 * nat_abs height) (nat_abs page.height) s both.1;
    }

above_zero : (z : ℤ) → IsTrue (is_side z) → 0 < nat_abs z
above_zero (pos zero) h = absurd (cc (h))
above_zero (pos (suc n)) h = omega arith
above_zero (negsuc n) h = absurd (cc (h))

within_is : (width height : ℤ) (page : Paper) (s : ℕ) → IsPaper page → IsWithin width height page s → s ≤ scale_within width height page
within_is width height page s is h =
    let sides = both_true (is_side page.width) (is_side page.height) is in
    both_below (scale_along width page.width) (scale_along height page.height) s
    (no_larger (1_000_000_000 * nat_abs width) (nat_abs page.width) s (above_zero page.width sides.0) h.wide)
    (no_larger (1_000_000_000 * nat_abs height) (nat_abs page.height) s (above_zero page.height sides.1) h.high)

fits_one : (size page : Paper) (s : ℕ)
    → (s ≤ scale_within size.width size.height page) ⊎ (s ≤ scale_within size.height size.width page) → FitsOn size page s
fits_one size page s (inl h) = inl (is_within size.width size.height page s h)
fits_one size page s (inr h) = inr (is_within size.height size.width page s h)

one_fits : (size page : Paper) (s : ℕ) → IsPaper page → FitsOn size page s
    → (s ≤ scale_within size.width size.height page) ⊎ (s ≤ scale_within size.height size.width page)
one_fits size page s is (inl h) = inl (within_is size.width size.height page s is h)
one_fits size page s is (inr h) = inr (within_is size.height size.width page s is h)

-- the whole percentage isn't much smaller
percent_below : (e : ℕ) → in_percent e ≤ e
percent_below e = div-mul-le_self e 10_000_000

below_percent : (e : ℕ) → e < in_percent e + 10_000_000
below_percent e = lt-div-mul-add {a = e} {b = 10_000_000} (omega arith)

chosen_below : (b : Bool) (e : ℕ) → (if b then in_percent e else e) ≤ e
chosen_below true e = percent_below e
chosen_below false e = omega arith

below_chosen : (b : Bool) (e : ℕ) → e < (if b then in_percent e else e) + 10_000_000
below_chosen true e = below_percent e
below_chosen false e = omega arith

pub poster_is_of_size : PosterIsOfSize
poster_is_of_size size page p is =
    let up = scale_within size.width size.height page in
    let side = scale_within size.height size.width page in
    let e = exact_scale size page in
    let fewer = nat_lt (sheets_at page p (in_percent e)) (sheets_at page p e) in
    let least = below_both (max up side) greatest_number e (omega arith) in
    record {
      fits = fits_one size page (scale_on size page p) (below_one up side (scale_on size page p) (omega (arith, chosen_below fewer e, least.0)));
      large = λ larger within fits.
          let h = both_below (max up side) greatest_number larger (one_below up side larger (one_fits size page larger is fits)) within in
          omega (arith, below_chosen fewer e, h);
    }
