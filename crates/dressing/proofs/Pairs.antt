-- The strokes along one line more.
use Rattle.std.proofs.Common.{ℕ, zero, suc, List, [], ◌∷◌, ◌+◌, ◌-◌, ◌≤◌, ◌++◌, ◌≡◌, ap, sym, ◌∙◌, arith}
use Rattle.std.specs.Prelude.{flat_map}
use Rattle.std.specs.List.{range_with_len}
use Rattle.std.proofs.lemmas.List.{flat_map_more}

pub last : (a n j : ℕ) → a + n ≡ j → range_with_len a (suc n) ≡ range_with_len a n ++ j ∷ []
last a zero j e = let same : a ≡ j = omega (arith, e) in ap (λ k. k ∷ []) same
last a (suc n) j e = ap (λ l. a ∷ l) (last (a + 1) n j (omega (arith, e)))

pub one_pair : {X : Type 0} (f : ℕ → List X) (o old new : List X) (k : ℕ) → 1 ≤ k → old ≡ o ++ flat_map f (range_with_len 1 (k - 1)) → new ≡ old ++ f k
    → new ≡ o ++ flat_map f (range_with_len 1 ((k + 1) - 1))
one_pair f o old new k some before step =
    let place : 1 + (k - 1) ≡ k = omega (arith, some) in
    let next : suc (k - 1) ≡ (k + 1) - 1 = omega (arith, some) in
    step
    ∙ ap (λ xs. xs ++ f k) before
    ∙ flat_map_more f o (range_with_len 1 (k - 1)) k
    ∙ ap (λ xs. o ++ flat_map f xs) (sym (last 1 (k - 1) k place) ∙ ap (range_with_len 1) next)
