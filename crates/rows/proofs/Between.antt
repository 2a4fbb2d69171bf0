-- How many pages a range has.
use Rattle.std.proofs.Common.{ℕ, zero, suc, ◌+◌, ◌-◌, ◌<◌, ◌≤◌, ◌≡◌, ◌∙◌, [], ◌∷◌, ◌++◌, Option, Some, true, false, refl, ap, sym, arith, length, map, append_assoc}
use Rattle.std.specs.Prelude.{nat_le}
use Rattle.std.specs.List.{range_with_len}
use Rattle.std.proofs.lemmas.Bool.Decides.{nat_tests}
use Rattle.std.proofs.lemmas.List.{length-map}
use Rattle.std.proofs.lemmas.List.FromFn.{length-map-range_with_len, map-range_with_len_more}
use Rattle.rules.specs.Rows.{Row}
use Rattle.rules.specs.Ranges.{from_to}
use Rattle.rows.specs.Found.{pages_from_to}

pub pages_up : (f l : ℕ) → f ≤ l → length (pages_from_to f l) ≡ l - f + 1
pages_up f l le =
    let test : nat_le f l ≡ true = grind (arith, nat_tests) in
    length-map (from_to f l) (λ k. Some (k - 1)) ∙ rw test (length-map-range_with_len (λ i. f + i) 0 (l - f + 1))

pub pages_down : (f l : ℕ) → l < f → length (pages_from_to f l) ≡ f - l + 1
pages_down f l lt =
    let test : nat_le f l ≡ false = grind (arith, nat_tests) in
    length-map (from_to f l) (λ k. Some (k - 1)) ∙ rw test (length-map-range_with_len (λ i. f - i) 0 (f - l + 1))

maps_same : (f : ℕ → ℕ) (g h : ℕ → Option ℕ) (n : ℕ) → ((i : ℕ) → i < n → g (f i) ≡ h i) → (a k : ℕ) → a + k ≤ n
    → map g (map f (range_with_len a k)) ≡ map h (range_with_len a k)
maps_same f g h n same a zero le = refl
maps_same f g h n same a (suc k) le =
    ap (λ z. z ∷ map g (map f (range_with_len (a + 1) k))) (same a (omega (arith, le)))
    ∙ ap (λ z. h a ∷ z) (maps_same f g h n same (a + 1) k (omega (arith, le)))

pub all_up : (f l : ℕ) → 0 < f → f ≤ l → map (λ i. Some (f - 1 + i)) (range_with_len 0 (l - f + 1)) ≡ pages_from_to f l
all_up f l pos le =
    let test : nat_le f l ≡ true = grind (arith, nat_tests) in
    sym (rw test (maps_same (λ i. f + i) (λ k. Some (k - 1)) (λ i. Some (f - 1 + i)) (l - f + 1) (λ i lt. ap Some (omega (arith, pos))) 0 (l - f + 1) (omega arith)))

pub all_down : (f l : ℕ) → 0 < l → l < f → map (λ i. Some (f - 1 - i)) (range_with_len 0 (f - l + 1)) ≡ pages_from_to f l
all_down f l pos lt =
    let test : nat_le f l ≡ false = grind (arith, nat_tests) in
    sym (rw test (maps_same (λ i. f - i) (λ k. Some (k - 1)) (λ i. Some (f - 1 - i)) (f - l + 1) (λ i less. ap Some (omega (arith, pos, lt, less))) 0 (f - l + 1) (omega arith)))

-- one entry more
pub one_more : (entry : ℕ → Option ℕ) (old row new : Row) (i : ℕ) → row ≡ old ++ map entry (range_with_len 0 i) → new ≡ row ++ entry i ∷ [] → new ≡ old ++ map entry (range_with_len 0 (i + 1))
one_more entry old row new i so_far more =
    more
    ∙ ap (λ (r : Row). r ++ entry i ∷ []) so_far
    ∙ append_assoc old (map entry (range_with_len 0 i)) (entry i ∷ [])
    ∙ ap (λ (r : Row). old ++ r) (sym (map-range_with_len_more entry 0 i i (omega arith)))
