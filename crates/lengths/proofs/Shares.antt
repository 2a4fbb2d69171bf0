-- A number times a side of a paper fits in 128 bits, and a 10^9th of it is a length.
use Rattle.std.proofs.Common.{arith, ◌≡◌, ℕ, ◌+◌, ◌*◌, ◌^◌, ◌<◌, ◌≤◌, FitsSigned, ℤ, pos, negsuc, nat_abs, ◌*ℤ◌, sym, subst, w64}
use Rattle.std.specs.Prelude.{IsTrue}
use Rattle.std.proofs.lemmas.Int.{ints, unsigned_abs-mul}
use Rattle.std.proofs.lemmas.Nat.{mul-le}
use Rattle.std.proofs.lemmas.Grind.{common_steps}
use mir.Syntax.{w128}
use Rattle.rules.specs.Numbers.{rounded}
use Rattle.rules.specs.Papers.{is_side}
use Rattle.lengths.specs.Ranges.{FitsNumber, FitsGrains}

side_within : (s : ℤ) → IsTrue (is_side s) → nat_abs s ≤ 10 ^ 18
side_within s h = grind (ints, arith, common_steps)

product_within : (a b : ℤ) (m n : ℕ) → nat_abs a ≤ m → nat_abs b ≤ n → nat_abs (a *ℤ b) ≤ m * n
product_within a b m n h k = subst (λ k. k ≤ m * n) (sym (unsigned_abs-mul a b)) (mul-le (nat_abs a) (nat_abs b) m n h k)

pub fits : (z : ℤ) → nat_abs z ≤ 10 ^ 32 → FitsSigned w128 z
fits z h = omega (arith, ints)

rounded_within : (z : ℤ) → nat_abs z ≤ 10 ^ 32 → FitsGrains (rounded z (10 ^ 9))
rounded_within (pos n) h = omega (arith, ints)
rounded_within (negsuc n) h = omega (arith, ints)

pub record Shares (v s : ℤ) : Type 0 where
  pub narrow : FitsSigned w64 v
  pub number : FitsSigned w128 v
  pub side : FitsSigned w128 s
  pub product : FitsSigned w128 (v *ℤ s)
  pub twice : 2 * nat_abs (v *ℤ s) + 10 ^ 9 < 2 ^ 127
  pub share : FitsGrains (rounded (v *ℤ s) (10 ^ 9))

pub they_share : (v s number side : ℤ) → v ≡ number → s ≡ side → FitsNumber number → IsTrue (is_side side) → Shares v s
they_share v s number side is like fits_it may_be =
    let few : nat_abs v ≤ 10 ^ 14 = let most = subst FitsNumber (sym is) fits_it in omega (arith, most) in
    let short : nat_abs s ≤ 10 ^ 18 = side_within s (subst (λ s. IsTrue (is_side s)) (sym like) may_be) in
    let most : nat_abs (v *ℤ s) ≤ 10 ^ 32 = product_within v s (10 ^ 14) (10 ^ 18) few short in
    record {
      narrow = omega (arith, ints, few);
      number = fits v (omega (arith, few));
      side = fits s (omega (arith, short));
      product = fits (v *ℤ s) most;
      twice = omega (arith, most);
      share = rounded_within (v *ℤ s) most;
    }
