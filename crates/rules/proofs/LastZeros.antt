-- Trailing zeros of a row of digits: left out, and filled in up to a length.
use Rattle.std.proofs.Common.{arith, ◌≡◌, ℕ, zero, suc, ◌+◌, ◌-◌, ◌≤◌, List, [], ◌∷◌, ◌++◌, Bool, true, false, refl, sym, ap, ◌∙◌, length, take}
use Rattle.std.specs.Prelude.{if◌then◌else◌, replicate, ◌==◌, ◌&&◌}
use Rattle.std.specs.List.{AllPass}
use Rattle.std.specs.Char.{is_ascii_digit}
use Rattle.std.proofs.lemmas.Grind.{common_steps}
use Rattle.std.proofs.lemmas.List.{nil_from_length, take-replicate}
use Rattle.std.proofs.lemmas.List.Elements.{All-nil, All-cons, All-head, All-tail}
use Rattle.rules.specs.Numbers.{without_last_zeros}
use Rattle.rules.proofs.Digits.{IsDigit}

-- trailing zeros that were left out are filled in again
pub padded : (ds : List ℕ) (k : ℕ) → length ds ≤ k → take (length ds) (without_last_zeros ds ++ replicate k 48) ≡ ds
padded [] k h = refl
padded (d ∷ ds) zero h = absurd (omega arith)
padded (d ∷ ds) (suc k) h = by_case ((length (without_last_zeros ds) == 0) && (d == 48)) refl (padded ds k (omega arith)) (padded ds (suc k) (omega arith))
  where
    by_case : (b : Bool) → ((length (without_last_zeros ds) == 0) && (d == 48)) ≡ b → take (length ds) (without_last_zeros ds ++ replicate k 48) ≡ ds → take (length ds) (without_last_zeros ds ++ replicate (suc k) 48) ≡ ds
        → take (suc (length ds)) ((if b then [] else d ∷ without_last_zeros ds) ++ replicate (suc k) 48) ≡ d ∷ ds
    by_case true e short long =
        let zero_now : d ≡ 48 = grind (arith, common_steps) in
        let none : without_last_zeros ds ≡ [] = nil_from_length _ (grind (arith, common_steps)) in
        ap (λ x. x ∷ take (length ds) (replicate k 48)) (sym zero_now) ∙ ap (λ x. d ∷ x) (ap (λ w. take (length ds) (w ++ replicate k 48)) (sym none) ∙ short)
    by_case false e short long = ap (λ x. d ∷ x) long

-- what is left without trailing zeros are digits
pub stripped_pass : (ds : List ℕ) → AllPass is_ascii_digit ds → AllPass is_ascii_digit (without_last_zeros ds)
stripped_pass [] h = All-nil IsDigit
stripped_pass (d ∷ ds) h = by_case ((length (without_last_zeros ds) == 0) && (d == 48)) (stripped_pass ds (All-tail IsDigit d ds h))
  where
    by_case : (b : Bool) → AllPass is_ascii_digit (without_last_zeros ds) → AllPass is_ascii_digit (if b then [] else d ∷ without_last_zeros ds)
    by_case true rest = All-nil IsDigit
    by_case false rest = All-cons IsDigit d (without_last_zeros ds) (All-head IsDigit d ds h) rest

pub stripped_length : (ds : List ℕ) → length (without_last_zeros ds) ≤ length ds
stripped_length [] = omega arith
stripped_length (d ∷ ds) = by_case ((length (without_last_zeros ds) == 0) && (d == 48)) (stripped_length ds)
  where
    by_case : (b : Bool) → length (without_last_zeros ds) ≤ length ds → length (if b then [] else d ∷ without_last_zeros ds) ≤ suc (length ds)
    by_case true h = omega arith
    by_case false h = omega arith

pub stripped_again : (ds : List ℕ) → without_last_zeros (without_last_zeros ds) ≡ without_last_zeros ds
stripped_again [] = refl
stripped_again (d ∷ ds) = by_case ((length (without_last_zeros ds) == 0) && (d == 48)) refl (stripped_again ds)
  where
    by_case : (b : Bool) → ((length (without_last_zeros ds) == 0) && (d == 48)) ≡ b → without_last_zeros (without_last_zeros ds) ≡ without_last_zeros ds
        → without_last_zeros (if b then [] else d ∷ without_last_zeros ds) ≡ (if b then [] else d ∷ without_last_zeros ds)
    by_case true e h = refl
    by_case false e h =
        ap (λ w. if (length w == 0) && (d == 48) then [] else d ∷ w) h ∙ ap (λ b. if b then [] else d ∷ without_last_zeros ds) e

-- zeros that fill a row up to a length
pub filled : (ds : List ℕ) (e k : ℕ) → length ds ≤ e → e ≤ length ds + k → take e (ds ++ replicate k 48) ≡ ds ++ replicate (e - length ds) 48
filled [] e k few enough = take-replicate e k 48 (omega arith) ∙ ap (λ n. replicate n 48) (omega arith)
filled (d ∷ ds) zero k few enough = absurd (omega arith)
filled (d ∷ ds) (suc e) k few enough =
    ap (λ xs. d ∷ xs) (filled ds e k (omega arith) (omega arith)) ∙ ap (λ n. d ∷ (ds ++ replicate n 48)) (omega arith)

without_last_zeros-zeros : (k : ℕ) → without_last_zeros (replicate k 48) ≡ []
without_last_zeros-zeros zero = refl
without_last_zeros-zeros (suc k) = ap (λ rest. if (length rest == 0) && (48 == 48) then [] else 48 ∷ rest) (without_last_zeros-zeros k)

-- zeros that were filled in are left out again
pub without_last_zeros-filled : (ds : List ℕ) (k : ℕ) → without_last_zeros (ds ++ replicate k 48) ≡ without_last_zeros ds
without_last_zeros-filled [] k = without_last_zeros-zeros k
without_last_zeros-filled (d ∷ ds) k = ap (λ rest. if (length rest == 0) && (d == 48) then [] else d ∷ rest) (without_last_zeros-filled ds k)
