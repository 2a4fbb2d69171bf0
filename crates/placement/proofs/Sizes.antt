-- The sums for a coordinate fit in 128 bits.
use Rattle.std.proofs.Common.{arith, ℕ, ◌+◌, ◌*◌, ◌^◌, ◌≤◌, FitsSigned, ℤ, pos, nat_abs, ◌+ℤ◌, ◌*ℤ◌}
use Rattle.std.proofs.Common.{sym, subst, w64, w32}
use Rattle.std.proofs.lemmas.Int.{ints, unsigned_abs-mul}
use Rattle.std.proofs.lemmas.Nat.{mul-le}
use mir.Syntax.{w128}

sum_within : (a b : ℤ) (m n : ℕ) → nat_abs a ≤ m → nat_abs b ≤ n → nat_abs (a +ℤ b) ≤ m + n
sum_within a b m n h k = omega (arith, ints)

grains_within : (z : ℤ) (n : ℕ) → nat_abs z ≤ n → nat_abs (pos 127 *ℤ z) ≤ 127 * n
grains_within z n h = omega (arith, ints)

pub fits : (z : ℤ) (n : ℕ) → nat_abs z ≤ n → n ≤ 10 ^ 30 → FitsSigned w128 z
fits z n h k = omega (arith, ints)

pub record Fit (s a b : ℤ) : Type 0 where
  pub shift : FitsSigned w128 s
  pub first : FitsSigned w128 a
  pub second : FitsSigned w128 b
  pub sum : FitsSigned w128 (a +ℤ b)
  pub grains : FitsSigned w128 (pos 127 *ℤ (a +ℤ b))
  pub whole : FitsSigned w128 (s +ℤ pos 127 *ℤ (a +ℤ b))

pub they_fit : (s a b : ℤ) → nat_abs s ≤ 10 ^ 23 → nat_abs a ≤ 10 ^ 24 → nat_abs b ≤ 10 ^ 24 → Fit s a b
they_fit s a b small one two =
    let both = sum_within a b (10 ^ 24) (10 ^ 24) one two in
    let grains = grains_within (a +ℤ b) (10 ^ 24 + 10 ^ 24) both in
    record {
      shift = fits s (10 ^ 23) small (omega arith);
      first = fits a (10 ^ 24) one (omega arith);
      second = fits b (10 ^ 24) two (omega arith);
      sum = fits (a +ℤ b) (10 ^ 24 + 10 ^ 24) both (omega arith);
      grains = fits (pos 127 *ℤ (a +ℤ b)) (127 * (10 ^ 24 + 10 ^ 24)) grains (omega arith);
      whole = fits (s +ℤ pos 127 *ℤ (a +ℤ b)) (10 ^ 23 + 127 * (10 ^ 24 + 10 ^ 24)) (sum_within s (pos 127 *ℤ (a +ℤ b)) (10 ^ 23) (127 * (10 ^ 24 + 10 ^ 24)) small grains) (omega arith);
    }

-- ---- a number of 64 bits times one of 32
pub product_within : (a b : ℤ) (m n : ℕ) → nat_abs a ≤ m → nat_abs b ≤ n → nat_abs (a *ℤ b) ≤ m * n
product_within a b m n h k = subst (λ k. k ≤ m * n) (sym (unsigned_abs-mul a b)) (mul-le (nat_abs a) (nat_abs b) m n h k)

signed_within : (z : ℤ) → FitsSigned w32 z → nat_abs z ≤ 2 ^ 31
signed_within z h = omega (arith, ints)

pub record Multiplies (a b : ℤ) : Type 0 where
  pub wide : FitsSigned w64 a
  pub first : FitsSigned w128 a
  pub second : FitsSigned w128 b
  pub product : FitsSigned w128 (a *ℤ b)
  pub within : nat_abs (a *ℤ b) ≤ 10 ^ 24

pub they_multiply : (a b : ℤ) → nat_abs a ≤ 99_999_999_999_999 → FitsSigned w32 b → Multiplies a b
they_multiply a b small is =
    let few = signed_within b is in
    let most = product_within a b 99_999_999_999_999 (2 ^ 31) small few in
    record {
      wide = omega (arith, ints, small);
      first = fits a 99_999_999_999_999 small (omega arith);
      second = fits b (2 ^ 31) few (omega arith);
      product = fits (a *ℤ b) (99_999_999_999_999 * 2 ^ 31) most (omega arith);
      within = omega (arith, most);
    }
