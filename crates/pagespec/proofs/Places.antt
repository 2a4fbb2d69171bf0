-- Where a whole text is stuck is the length of its longest beginning that the grammar has.
use Rattle.std.proofs.Common.{arith, ◌≡◌, ℕ, suc, ◌+◌, ◌-◌, ◌<◌, ◌≤◌, List, [], ◌∷◌, ◌++◌, None, refl, sym, ap, subst, ◌∙◌, append_assoc, length, take}
use Rattle.std.proofs.lemmas.List.{length-append}
use Rattle.std.proofs.Math.Seq.{take-append_seam, take-append-add}
use Rattle.rules.specs.Specification.{WrittenSpec, IsSpec}
use Rattle.pagespec.specs.Reading.{spec_at}
use Rattle.pagespec.specs.Places.{IsBeginning, IsPlaceIn, StuckIn}
use Rattle.pagespec.proofs.Texts.{no_tree}

-- no text of the grammar begins with more
no_longer : (front back : List ℕ) (n : ℕ) → ((b : ℕ) (tail : List ℕ) → back ≡ b ∷ tail → (after : List ℕ) → spec_at (front ++ b ∷ after) ≡ None) → length front < n → n ≤ length (front ++ back) → IsBeginning (take n (front ++ back)) → ⊥
no_longer front [] n fails low high begins = omega (arith, low, high, length-append front [])
no_longer front (b ∷ tail) n fails low high (more, spec, is) =
    let k : ℕ = n - suc (length front) in
    let long : n ≡ length front + suc k = omega (arith, low) in
    let cut : take n (front ++ b ∷ tail) ≡ front ++ b ∷ take k tail = ap (λ j. take j (front ++ b ∷ tail)) long ∙ take-append-add front (b ∷ tail) (suc k) in
    no_tree (front ++ b ∷ (take k tail ++ more)) (fails b tail refl (take k tail ++ more)) spec
    (subst (λ x. IsSpec x spec) (ap (λ x. x ++ more) cut ∙ append_assoc front (b ∷ take k tail) more) is)

pub parts_place : (front back more : List ℕ) (spec : WrittenSpec) → IsSpec (front ++ more) spec → ((b : ℕ) (tail : List ℕ) → back ≡ b ∷ tail → (after : List ℕ) → spec_at (front ++ b ∷ after) ≡ None) → IsPlaceIn (front ++ back) (length front)
unfolding IsPlaceIn
parts_place front back more spec is fails = (
  omega (arith, length-append front back),
  subst (λ x. IsBeginning x) (sym (take-append_seam front back)) (more, spec, is),
  λ n low high begins. no_longer front back n fails low high begins,
)

pub place_in : (t : List ℕ) (left at : ℕ) → StuckIn IsSpec spec_at t left → at ≡ length t - left → IsPlaceIn t at
place_in t left at (none, s) e =
    let same : length s.front ≡ at = omega (arith, e, s.left_is, ap length s.split, length-append s.front s.back) in
    let (spec, is) = s.begun in
    subst (λ x. IsPlaceIn t x) same (subst (λ x. IsPlaceIn x (length s.front)) (sym s.split) (parts_place s.front s.back s.more spec is s.fails))
