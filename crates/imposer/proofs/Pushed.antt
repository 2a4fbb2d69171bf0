-- What holds at each place of a list, and with one more element at its end.
use Rattle.std.proofs.Common.{◌≡◌, ℕ, zero, suc, ◌+◌, ◌<◌, List, [], ◌∷◌, ◌++◌, length, get_or, arith, sym, subst}

one_more : {A : Type 0} (P : ℕ → A → Type 0) (xs : List A) (y : A) → ((k : ℕ) (d : A) → k < length xs → P k (get_or xs k d)) → P (length xs) y
    → (k : ℕ) (d : A) → k < suc (length xs) → P k (get_or (xs ++ y ∷ []) k d)
one_more P [] y each last zero d below = last
one_more P [] y each last (suc k) d below = absurd (omega arith)
one_more P (x ∷ xs) y each last zero d below = each zero d (omega arith)
one_more P (x ∷ xs) y each last (suc k) d below = one_more (λ j. P (suc j)) xs y (λ j e lt. each (suc j) e (omega arith)) last k d (omega arith)

pub pushed : {A : Type 0} (P : ℕ → A → Type 0) (xs : List A) (y : A) (new : List A) (n : ℕ) → new ≡ xs ++ y ∷ [] → length xs ≡ n
    → ((k : ℕ) (d : A) → k < n → P k (get_or xs k d)) → P n y → (k : ℕ) (d : A) → k < n + 1 → P k (get_or new k d)
pushed P xs y new n is len each last k d below =
    subst (λ list. P k (get_or list k d)) (sym is)
    (one_more P xs y (λ j e lt. each j e (omega arith)) (subst (λ m. P m y) (sym len) last) k d (omega arith))
