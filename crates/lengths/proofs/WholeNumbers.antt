-- Whole numbers are printed without decimals.
use Rattle.std.proofs.Common.{arith, ◌≡◌, ◌≤◌, ℕ, zero, suc, [], refl}
use Rattle.std.specs.Fmt.{digits}
use Rattle.rules.specs.Numbers.{decimals_of}

pub no_decimals : (e : ℕ) → e ≤ 9 → decimals_of e 0 ≡ []
unfolding digits
no_decimals zero h = refl
no_decimals (suc zero) h = refl
no_decimals (suc (suc zero)) h = refl
no_decimals (suc (suc (suc zero))) h = refl
no_decimals (suc (suc (suc (suc zero)))) h = refl
no_decimals (suc (suc (suc (suc (suc zero))))) h = refl
no_decimals (suc (suc (suc (suc (suc (suc zero)))))) h = refl
no_decimals (suc (suc (suc (suc (suc (suc (suc zero))))))) h = refl
no_decimals (suc (suc (suc (suc (suc (suc (suc (suc zero)))))))) h = refl
no_decimals (suc (suc (suc (suc (suc (suc (suc (suc (suc zero))))))))) h = refl
no_decimals (suc (suc (suc (suc (suc (suc (suc (suc (suc (suc e)))))))))) h = absurd (omega (arith, h))
