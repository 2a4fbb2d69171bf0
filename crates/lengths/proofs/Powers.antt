-- Rows of digits as they grow.
use Rattle.std.proofs.Common.{arith, ◌≡◌, ℕ, ◌+◌, ◌*◌, ◌^◌, ◌<◌, ◌≤◌, List, length, take, get_or}
use Rattle.std.proofs.lemmas.Grind.{common_steps}
use Rattle.std.proofs.lemmas.List.Sums.{fold_more}
use Rattle.std.proofs.Math.Nat.{pow-le-pow_right}
use Rattle.rules.specs.Numbers.{number_of}

pub ten_more : (i : ℕ) → 10 ^ (i + 1) ≡ 10 * 10 ^ i
ten_more i = grind (arith, common_steps)

pub nine_tens : (i : ℕ) → i < 9 → 10 ^ i ≤ 100_000_000
nine_tens i h = pow-le-pow_right {n = 10} (omega arith) {i = i} {j = 8} (omega arith)

pub one_more_digit : (xs : List ℕ) (i n d : ℕ) → i < length xs → n ≡ number_of (take i xs) → d + 48 ≡ get_or xs i 0 → n * 10 + d ≡ number_of (take (i + 1) xs)
one_more_digit xs i n d h e f = grind (arith, common_steps, fold_more)
