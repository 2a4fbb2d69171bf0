-- One line for notes more, and those of one row more.
use Rattle.std.proofs.Common.{◌≡◌, ℕ, suc, ◌+◌, List, [], ◌∷◌, ◌++◌, ap, sym, ◌∙◌, arith, append_assoc}
use Rattle.std.specs.Prelude.{map, flat_map}
use Rattle.std.specs.List.{range_with_len}
use Rattle.std.proofs.lemmas.List.{flat_map_more}
use Rattle.std.proofs.lemmas.List.FromFn.{map-range_with_len_more}
use Rattle.dressing.proofs.Pairs.{last}

pub one_line : {X : Type 0} (f : ℕ → X) (o old new : List X) (k : ℕ) (x : X) → old ≡ o ++ map f (range_with_len 1 k) → new ≡ old ++ x ∷ [] → x ≡ f (k + 1)
    → new ≡ o ++ map f (range_with_len 1 (k + 1))
one_line f o old new k x before step is =
    let place : 1 + k ≡ k + 1 = omega arith in
    step
    ∙ ap (λ xs. xs ++ x ∷ []) before
    ∙ append_assoc o (map f (range_with_len 1 k)) (x ∷ [])
    ∙ ap (λ xs. o ++ xs) (ap (λ y. map f (range_with_len 1 k) ++ y ∷ []) is ∙ sym (map-range_with_len_more f 1 k (k + 1) place))

pub one_row : {X : Type 0} (f : ℕ → List X) (old new : List X) (k : ℕ) → old ≡ flat_map f (range_with_len 0 k) → new ≡ old ++ f k
    → new ≡ flat_map f (range_with_len 0 (k + 1))
one_row f old new k before step =
    let place : 0 + k ≡ k = omega arith in
    let next : suc k ≡ k + 1 = omega arith in
    step
    ∙ ap (λ xs. xs ++ f k) before
    ∙ flat_map_more f [] (range_with_len 0 k) k
    ∙ ap (flat_map f) (sym (last 0 k k place) ∙ ap (range_with_len 0) next)
