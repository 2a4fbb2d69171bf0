-- Rows of digits without trailing zeros.
use Rattle.std.proofs.Common.{arith, ◌≡◌, ◌≢◌, ℕ, suc, List, [], ◌∷◌, ◌++◌, Bool, true, false, refl, ap, ◌∙◌, length}
use Rattle.std.specs.Prelude.{◌==◌, ◌&&◌, if◌then◌else◌}
use Rattle.std.proofs.lemmas.Grind.{common_steps}
use Rattle.rules.specs.Numbers.{without_last_zeros}

-- a digit before a row that is left with this
abbrev before_kept : ℕ → List ℕ → List ℕ
before_kept d rest = if (length rest == 0) && (d == 48) then [] else d ∷ rest

pub without_last_zeros-zero : (ds : List ℕ) → without_last_zeros (ds ++ 48 ∷ []) ≡ without_last_zeros ds
without_last_zeros-zero [] = refl
without_last_zeros-zero (d ∷ ds) = ap (before_kept d) (without_last_zeros-zero ds)

not_zero : (n : ℕ) → (suc n == 0) ≡ false
not_zero n = grind (arith, common_steps)

some_left : (d x : ℕ) (rest : List ℕ) → before_kept d (x ∷ rest) ≡ d ∷ x ∷ rest
some_left d x rest = ap (λ b. if b && (d == 48) then [] else d ∷ x ∷ rest) (not_zero (length rest))

-- a row without trailing zeros stays as it is
pub without_last_zeros-same : (ds : List ℕ) → ((front : List ℕ) → ds ≢ front ++ 48 ∷ []) → without_last_zeros ds ≡ ds
without_last_zeros-same [] h = refl
without_last_zeros-same (d ∷ []) h = last (d == 48) refl
  where
    last : (b : Bool) → (d == 48) ≡ b → (if b then [] else d ∷ []) ≡ d ∷ []
    last true e = absurd (h [] (ap (λ x. x ∷ []) (grind (arith, common_steps))))
    last false e = refl
without_last_zeros-same (d ∷ x ∷ ds) h =
    ap (before_kept d) (without_last_zeros-same (x ∷ ds) (λ front e. h (d ∷ front) (ap (λ rest. d ∷ rest) e))) ∙ some_left d x ds
