-- The first of some things that has one, a thing at a time.
use Rattle.std.specs.Prelude.{Bool, Option, None, Some, map, slice_get}
use Rattle.std.specs.Option.{option_or}
use Rattle.std.proofs.Common.{◌≡◌, ℕ, zero, suc, ◌+◌, ◌<◌, List, [], ◌∷◌, length, take, refl, ap, sym, ◌∙◌, arith}
use Rattle.std.proofs.lemmas.Option.{none-some, same_Some}
use Rattle.rules.specs.Made.{MadeSheet}
use Rattle.rules.specs.Papers.{Paper}
use Rattle.sheet_plan.specs.OfSheets.{slots_at}
use Rattle.impose_messages.specs.declared.finished.Lying.{Lying}
use Rattle.impose_cli.specs.Lying.{first_found, lying, lying_on}

neither : (a b : Option Lying) → option_or a b ≡ None → (a ≡ None) × (b ≡ None)
neither None b e = (refl, e)
neither (Some x) b e = absurd (none-some x (sym e))

-- it is found at this thing, and at none before it
pub found_at : {X : Type 0} (find : X → Option Lying) (xs : List X) (i : ℕ) (x : X) (y : Lying) → slice_get xs i ≡ Some x
    → first_found find (take i xs) ≡ None → find x ≡ Some y → first_found find xs ≡ Some y
found_at find [] i x y at before here = absurd (none-some x at)
found_at find (z ∷ xs) zero x y at before here =
    ap (λ o. option_or o (first_found find xs)) (ap find (same_Some z x at) ∙ here)
found_at find (z ∷ xs) (suc i) x y at before here =
    let none = neither (find z) (first_found find (take i xs)) before in
    ap (λ o. option_or o (first_found find xs)) none.0 ∙ found_at find xs i x y at none.1 here

-- nor at one more
pub none_more : {X : Type 0} (find : X → Option Lying) (xs : List X) (i : ℕ) (x : X) → slice_get xs i ≡ Some x
    → first_found find (take i xs) ≡ None → find x ≡ None → first_found find (take (i + 1) xs) ≡ None
none_more find xs i x at before here = let next : suc i ≡ i + 1 = omega arith in
    ap (λ n. first_found find (take n xs)) (sym next) ∙ more find xs i x at before here
  where
    more : {X : Type 0} (find : X → Option Lying) (xs : List X) (i : ℕ) (x : X) → slice_get xs i ≡ Some x
        → first_found find (take i xs) ≡ None → find x ≡ None → first_found find (take (suc i) xs) ≡ None
    more find [] i x at before here = absurd (none-some x at)
    more find (z ∷ xs) zero x at before here = ap (λ o. option_or o None) (ap find (same_Some z x at) ∙ here)
    more find (z ∷ xs) (suc i) x at before here =
        let none = neither (find z) (first_found find (take i xs)) before in
        ap (λ o. option_or o (first_found find (take (suc i) xs))) none.0 ∙ more find xs i x at none.1 here

pub there : {X : Type 0} (xs : List X) (k : ℕ) → k < length xs → (x : X) × (slice_get xs k ≡ Some x)
there [] k h = absurd (omega (arith, h))
there (x ∷ xs) zero h = (x, refl)
there (x ∷ xs) (suc k) h = there xs k (omega (arith, h))

-- sheet s, by its paper and its slots
pub sheet_is : (wholly : Bool) (all : List MadeSheet) (s : ℕ) (it : MadeSheet) (p : Paper) → slice_get all s ≡ Some it
    → slice_get (map (λ sheet. sheet.paper) all) s ≡ Some p → first_found (lying wholly p) (slots_at all s) ≡ lying_on wholly it
sheet_is wholly [] s it p at paper = absurd (none-some it at)
sheet_is wholly (x ∷ all) zero it p at paper =
    ap (λ q. first_found (lying wholly q) x.slots) (sym (same_Some x.paper p paper)) ∙ ap (lying_on wholly) (same_Some x it at)
sheet_is wholly (x ∷ all) (suc s) it p at paper = sheet_is wholly all s it p at paper
