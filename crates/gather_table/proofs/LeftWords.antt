-- The words of a table as it is left, as a list.
use Rattle.std.proofs.Common.{◌≡◌, ℕ, zero, suc, ◌+◌, ◌≤◌, List, [], ◌∷◌, ◌++◌, length, take, Some, refl, sym, ap, ◌∙◌, arith}
use Rattle.std.specs.Prelude.{slice_get}
use Rattle.std.proofs.lemmas.Option.{same_Some, none-some}
use mathlib.Core.Option.{some, some-injective, some-ne-none}
use lib.ListN.{get_elem?}

take_next : (xs : List ℕ) (k x : ℕ) → get_elem? xs k ≡ some x → take k xs ++ x ∷ [] ≡ take (suc k) xs
take_next [] k x at = absurd (some-ne-none x (sym at))
take_next (y ∷ xs) zero x at = ap (λ z. z ∷ []) (sym (some-injective y x at))
take_next (y ∷ xs) (suc k) x at = ap (λ zs. y ∷ zs) (take_next xs k x at)

pub take_more : (xs : List ℕ) (k x : ℕ) → get_elem? xs k ≡ some x → take k xs ++ x ∷ [] ≡ take (k + 1) xs
take_more xs k x at = let e : suc k ≡ k + 1 = omega arith in take_next xs k x at ∙ ap (λ n. take n xs) e

pub take_whole : (xs : List ℕ) (k : ℕ) → length xs ≤ k → take k xs ≡ xs
take_whole [] zero le = refl
take_whole [] (suc k) le = refl
take_whole (y ∷ xs) zero le = absurd (omega (arith, le))
take_whole (y ∷ xs) (suc k) le = ap (λ zs. y ∷ zs) (take_whole xs k (omega (arith, le)))

-- what a list has at a place, by either of two words
pub is_elem : (xs : List ℕ) (k x : ℕ) → slice_get xs k ≡ Some x → get_elem? xs k ≡ some x
is_elem [] k x at = absurd (none-some x at)
is_elem (y ∷ xs) zero x at = ap some (same_Some y x at)
is_elem (y ∷ xs) (suc k) x at = is_elem xs k x at
