use Rattle.std.proofs.Common.{arith, ◌≡◌, ◌+◌, ◌-◌, ◌*◌, ◌/◌, ◌^◌, ◌<◌, ◌≤◌, ℕ, ap, sym, ◌∙◌, add-mul, le-div_iff_mul-le}
use Rattle.std.proofs.Math.Nat.{div-lt_iff_lt-mul}
use Rattle.std.proofs.lemmas.Nat.{pow-add, pow_pos}
use Rattle.gather_table.proofs.words.full_bits.Goals as goal

ones_of : (n m : ℕ) → n + m ≡ 64 → 18446744073709551615 / 2 ^ m ≡ 2 ^ n - 1
ones_of n m e =
    let d = pow_pos m in
    let q = pow_pos n in
    let all : 2 ^ n * 2 ^ m ≡ 18446744073709551616 = sym (pow-add 2 n m) ∙ ap (λ (k : ℕ). 2 ^ k) e in
    let up : 18446744073709551615 / 2 ^ m < 2 ^ n = (div-lt_iff_lt-mul d).1 (omega arith) in
    let less : (2 ^ n - 1) * 2 ^ m ≤ 18446744073709551615 = let s : (2 ^ n - 1 + 1) * 2 ^ m ≡ (2 ^ n - 1) * 2 ^ m + 1 * 2 ^ m = add-mul (2 ^ n - 1) 1 (2 ^ m) in let t : 2 ^ n - 1 + 1 ≡ 2 ^ n = omega arith in let u = ap (λ (z : ℕ). z * 2 ^ m) t in omega arith in
    let low : 2 ^ n - 1 ≤ 18446744073709551615 / 2 ^ m = (le-div_iff_mul-le d).1 less in
    omega arith

pub returns : goal.returns
returns c = ones_of c.args.count (64 - c.args.count) (omega arith)
