-- Elements of a list by their numbers, and whether any has a property.
use Rattle.std.specs.Prelude.{◌||◌, slice_index_or}
use Rattle.std.specs.List.{list_any}
use Rattle.std.proofs.Common.{Bool, true, false, true≢false, ◌≡◌, ℕ, zero, suc, ◌+◌, ◌<◌, ◌≤◌, List, [], ◌∷◌, length, take, refl, ap, sym, ◌∙◌, arith}

-- there is none beyond the end
pub beyond : {X : Type 0} (xs : List X) (n : ℕ) (d : X) → length xs ≤ n → slice_index_or xs n d ≡ d
beyond [] n d h = refl
beyond (x ∷ xs) zero d h = absurd (omega (arith, h))
beyond (x ∷ xs) (suc n) d h = beyond xs n d (omega (arith, h))

second : (a b : Bool) → b ≡ true → (a || b) ≡ true
second true b e = refl
second false b e = e

-- one of them has it
pub any_at : {X : Type 0} (t : X → Bool) (xs : List X) (n : ℕ) (d : X) → n < length xs → t (slice_index_or xs n d) ≡ true → list_any t xs ≡ true
any_at t [] n d h e = absurd (omega (arith, h))
any_at t (x ∷ xs) zero d h e = ap (λ b. b || list_any t xs) e
any_at t (x ∷ xs) (suc n) d h e = second (t x) (list_any t xs) (any_at t xs n d (omega (arith, h)) e)

right : (a b : Bool) → (a || b) ≡ false → (a ≡ false) × (b ≡ false)
right true b e = absurd (true≢false e)
right false b e = (refl, e)

neither : (a b : Bool) → a ≡ false → b ≡ false → (a || b) ≡ false
neither true b e f = absurd (true≢false e)
neither false b e f = f

-- nor one more of the first ones
pub none_more : {X : Type 0} (t : X → Bool) (xs : List X) (n : ℕ) (d : X) → n < length xs → t (slice_index_or xs n d) ≡ false → list_any t (take n xs) ≡ false
    → list_any t (take (n + 1) xs) ≡ false
none_more t xs n d h e f = let next : suc n ≡ n + 1 = omega arith in
    ap (λ k. list_any t (take k xs)) (sym next) ∙ more t xs n d h e f
  where
    more : {X : Type 0} (t : X → Bool) (xs : List X) (n : ℕ) (d : X) → n < length xs → t (slice_index_or xs n d) ≡ false → list_any t (take n xs) ≡ false
        → list_any t (take (suc n) xs) ≡ false
    more t [] n d h e f = absurd (omega (arith, h))
    more t (x ∷ xs) zero d h e f = neither (t x) false e refl
    more t (x ∷ xs) (suc n) d h e f =
        let both = right (t x) (list_any t (take n xs)) f in
        neither (t x) (list_any t (take (suc n) xs)) both.0 (more t xs n d (omega (arith, h)) e both.1)

-- what holds by the first of two tests
pub first_holds : (r a b : Bool) → r ≡ true → r ≡ a → r ≡ (a || b)
first_holds r true b t e = e
first_holds r false b t e = absurd (true≢false (sym t ∙ e))
