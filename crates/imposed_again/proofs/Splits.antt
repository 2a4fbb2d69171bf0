-- Units that pass a test, and the parts of a document.
use Rattle.std.specs.Prelude.{Option, Some, None, map, if◌then◌else◌}
use Rattle.std.proofs.Common.{Bool, true, false, cond, ◌≡◌, ℕ, List, [], ◌∷◌, ◌++◌, refl, ap, sym, ◌∙◌}
use Rattle.rules.specs.Units.{TextUnit}
use Rattle.rules.specs.Parts.{NestedUnit, depth_after, nested_from, nested, begins_page, begins_trailer, up_to, starting_at, split_pages, bytes_of}
use Rattle.dsc.proofs.Cases.{by_test}
use Rattle.dsc.proofs.PartMarks.{before-cons, from-cons}
use Rattle.imposed_again.specs.Seams.{passes, PagesStay}

abbrev pub at_depth : ℕ → TextUnit → NestedUnit
at_depth d u = record { depth = d; unit = u }

let_by : (b : Bool) (r : Option ℕ) (e : ℕ) → (if b then None else r) ≡ Some e → (b ≡ false) × (r ≡ Some e)
let_by true r e h = cc
let_by false r e h = (refl, h)

pub passes_cons : (t : NestedUnit → Bool) (d : ℕ) (u : TextUnit) (us : List TextUnit) (e : ℕ) → passes t d (u ∷ us) ≡ Some e → (t (at_depth d u) ≡ false) × (passes t (depth_after d u) us ≡ Some e)
passes_cons t d u us e h = let_by (t (at_depth d u)) (passes t (depth_after d u) us) e h

pub same_some : (d e : ℕ) → Some d ≡ Some e → d ≡ e
same_some d e h = cc

pub passes_append : (t : NestedUnit → Bool) (d : ℕ) (us vs : List TextUnit) (e : ℕ) → passes t d us ≡ Some e → passes t d (us ++ vs) ≡ passes t e vs
passes_append t d [] vs e h = ap (λ k. passes t k vs) (same_some d e h)
passes_append t d (u ∷ us) vs e h =
    let w = passes_cons t d u us e h in
    ap (λ b. if b then None else passes t (depth_after d u) (us ++ vs)) w.0 ∙ passes_append t (depth_after d u) us vs e w.1

pub up_to_passed : (t : NestedUnit → Bool) (d : ℕ) (us vs : List TextUnit) (e : ℕ) → passes t d us ≡ Some e → up_to t (nested_from d (us ++ vs)) ≡ nested_from d us ++ up_to t (nested_from e vs)
up_to_passed t d [] vs e h = ap (λ k. up_to t (nested_from k vs)) (same_some d e h)
up_to_passed t d (u ∷ us) vs e h =
    let w = passes_cons t d u us e h in
    let more : List NestedUnit = nested_from (depth_after d u) (us ++ vs) in
    before-cons t (at_depth d u) more ∙ ap (λ b. cond b [] (at_depth d u ∷ up_to t more)) w.0 ∙ ap (λ ws. at_depth d u ∷ ws) (up_to_passed t (depth_after d u) us vs e w.1)

pub from_passed : (t : NestedUnit → Bool) (d : ℕ) (us vs : List TextUnit) (e : ℕ) → passes t d us ≡ Some e → starting_at t (nested_from d (us ++ vs)) ≡ starting_at t (nested_from e vs)
from_passed t d [] vs e h = ap (λ k. starting_at t (nested_from k vs)) (same_some d e h)
from_passed t d (u ∷ us) vs e h =
    let w = passes_cons t d u us e h in
    let more : List NestedUnit = nested_from (depth_after d u) (us ++ vs) in
    from-cons t (at_depth d u) more ∙ ap (λ b. cond b (at_depth d u ∷ more) (starting_at t more)) w.0 ∙ from_passed t (depth_after d u) us vs e w.1

pub pages_stay : PagesStay
pages_stay front lines back d f g =
    let same : starting_at begins_page (nested (front ++ (lines ++ back))) ≡ starting_at begins_page (nested (front ++ back)) =
    from_passed begins_page 0 front (lines ++ back) d f ∙ from_passed begins_page d lines back d g ∙ sym (from_passed begins_page 0 front back d f) in
    (ap (λ us. map bytes_of (split_pages (up_to begins_trailer us))) same, ap (λ us. starting_at begins_trailer us) same)

-- no units, or a first one that passes the test
abbrev pub Opens : (NestedUnit → Bool) → ℕ → List TextUnit → Type 0
Opens t d [] = Unit {0}
Opens t d (u ∷ us) = t (at_depth d u) ≡ true

pub up_to_open : (t : NestedUnit → Bool) (d : ℕ) (us : List TextUnit) → Opens t d us → up_to t (nested_from d us) ≡ []
up_to_open t d [] h = refl
up_to_open t d (u ∷ us) h = let more : List NestedUnit = nested_from (depth_after d u) us in before-cons t (at_depth d u) more ∙ ap (λ b. cond b [] (at_depth d u ∷ up_to t more)) h

pub from_open : (t : NestedUnit → Bool) (d : ℕ) (us : List TextUnit) → Opens t d us → starting_at t (nested_from d us) ≡ nested_from d us
from_open t d [] h = refl
from_open t d (u ∷ us) h = let more : List NestedUnit = nested_from (depth_after d u) us in from-cons t (at_depth d u) more ∙ ap (λ b. cond b (at_depth d u ∷ more) (starting_at t more)) h

-- units before the first one that passes the test, and from it on
pub record Split (t : NestedUnit → Bool) (d : ℕ) (us : List TextUnit) : Type 0 where
  pub front : List TextUnit
  pub back : List TextUnit
  pub behind : ℕ
  pub whole : us ≡ front ++ back
  pub passing : passes t d front ≡ Some behind
  pub opens : Opens t behind back

pub split : (t : NestedUnit → Bool) (d : ℕ) (us : List TextUnit) → Split t d us
split t d [] = record { front = []; back = []; behind = d; whole = refl; passing = refl; opens = tt }
split t d (u ∷ us) = by_test (t (at_depth d u))
    (λ is. record { front = []; back = u ∷ us; behind = d; whole = refl; passing = refl; opens = is })
    (λ isnt.
    let s : Split t (depth_after d u) us = split t (depth_after d u) us in
    record {
      front = u ∷ s.front;
      back = s.back;
      behind = s.behind;
      whole = ap (λ vs. u ∷ vs) s.whole;
      passing = ap (λ b. if b then None else passes t (depth_after d u) s.front) isnt ∙ s.passing;
      opens = s.opens;
    })

-- none passes the test, at any depth
abbrev pub Through : (NestedUnit → Bool) → List TextUnit → Type 0
Through t us = (d : ℕ) → (e : ℕ) × (passes t d us ≡ Some e)

pub through_append : (t : NestedUnit → Bool) (us vs : List TextUnit) → Through t us → Through t vs → Through t (us ++ vs)
through_append t us vs f g d = let a = f d in let b = g a.0 in (b.0, passes_append t d us vs a.0 a.1 ∙ b.1)
