-- What the readers of the code found, compared with reading off the front.
use Rattle.std.proofs.Common.{arith, ◌≡◌, ◌≢◌, ℕ, List, [], ◌∷◌, Bool, true, false, Option, Some, None, refl, sym, ap, subst, ◌∙◌, drop}
use Rattle.std.specs.Prelude.{ℤ, if◌then◌else◌, ◌==◌}
use Rattle.rules.specs.Papers.{LengthUnit}
use Rattle.rules.specs.Specification.{Measure, Modifier, Scaled, Moved, Quarters}
use Rattle.std.proofs.lemmas.Grind.{common_steps}
use Rattle.lengths.proofs.Numbers.{same_byte}
use Rattle.lengths.specs.Reading.{number_at}
use Rattle.rules.specs.Numbers.{is_large}
use Rattle.rules.specs.Admissible.{has_large}
use Rattle.lengths.specs.Refusals.{IsRefused}
use Rattle.lengths.specs.declared.read.NumberError.{NumberError}
use Rattle.lengths.specs.declared.read.NumberError.TheVariants.{NotANumber, TooLarge}
use Rattle.pagespec.specs.Reading.{byte_at, unit_at, measure_from, measure_at, scale_at, offset_at, modifier_at, quarters_of}

pub measure_there : (t behind rest : List ℕ) (v : ℤ) (u : LengthUnit) → number_at t ≡ Some (v, behind) → (unit_at behind).0 ≡ u → (unit_at behind).1 ≡ rest → measure_at t ≡ Some (record { number = v; unit = u }, rest)
unfolding measure_at
measure_there t behind rest v u e eu er = rw e (ap (λ x. Some (measure_from v x)) (pair (unit_at behind) u rest eu er))
  where
    pair : (x : LengthUnit × List ℕ) (u : LengthUnit) (r : List ℕ) → x.0 ≡ u → x.1 ≡ r → x ≡ (u, r)
    pair x u r eu er = ap (λ a. (a, x.1)) eu ∙ ap (λ b. (u, b)) er

pub no_measure : (t : List ℕ) → number_at t ≡ None → measure_at t ≡ None
unfolding measure_at
no_measure t e = rw e refl

pub scale_from : (t rest : List ℕ) (v : ℤ) → number_at t ≡ Some (v, rest) → scale_at t ≡ Some (Scaled v, rest)
unfolding scale_at
scale_from t rest v e = rw e refl

pub scale_none : (t : List ℕ) → number_at t ≡ None → scale_at t ≡ None
unfolding scale_at
scale_none t e = rw e refl

-- a number that is too large, and what follows it
pub too_large : (t : List ℕ) (n : ℕ) (e : NumberError) → e ≡ TooLarge n → IsRefused t e → (v : ℤ) × (is_large v ≡ true) × (number_at t ≡ Some (v, drop n t))
too_large t n e is h = let r = subst (IsRefused t) is h in (r.1, r.2, r.3)

pub not_number : (t : List ℕ) (e : NumberError) → e ≡ NotANumber → IsRefused t e → number_at t ≡ None
not_number t e is h = subst (IsRefused t) is h

pub offset_from : (t t1 t2 t3 rest : List ℕ) (x y : Measure) → measure_at t ≡ Some (x, t1) → byte_at 44 t1 ≡ Some t2 → measure_at t2 ≡ Some (y, t3) → byte_at 41 t3 ≡ Some rest → offset_at t ≡ Some (Moved x y, rest)
unfolding offset_at
offset_from t t1 t2 t3 rest x y a b c d = rw a (rw b (rw c (rw d refl)))

pub no_first : (t : List ℕ) → measure_at t ≡ None → offset_at t ≡ None
unfolding offset_at
no_first t a = rw a refl

pub no_comma : (t t1 : List ℕ) (x : Measure) → measure_at t ≡ Some (x, t1) → byte_at 44 t1 ≡ None → offset_at t ≡ None
unfolding offset_at
no_comma t t1 x a b = rw a (rw b refl)

pub no_second : (t t1 t2 : List ℕ) (x : Measure) → measure_at t ≡ Some (x, t1) → byte_at 44 t1 ≡ Some t2 → measure_at t2 ≡ None → offset_at t ≡ None
unfolding offset_at
no_second t t1 t2 x a b c = rw a (rw b (rw c refl))

pub no_bracket : (t t1 t2 t3 : List ℕ) (x y : Measure) → measure_at t ≡ Some (x, t1) → byte_at 44 t1 ≡ Some t2 → measure_at t2 ≡ Some (y, t3) → byte_at 41 t3 ≡ None → offset_at t ≡ None
unfolding offset_at
no_bracket t t1 t2 t3 x y a b c d = rw a (rw b (rw c (rw d refl)))

-- a modifier by its first byte
pub at_nothing : (t : List ℕ) → t ≡ [] → modifier_at t ≡ None
unfolding modifier_at
at_nothing t e = ap modifier_at e

pub at_scale : (t u : List ℕ) (b : ℕ) → t ≡ b ∷ u → b ≡ 64 → modifier_at t ≡ scale_at u
unfolding modifier_at
at_scale t u b e f = ap modifier_at (e ∙ ap (λ x. x ∷ u) f)

pub at_offset : (t u : List ℕ) (b : ℕ) → t ≡ b ∷ u → b ≡ 40 → modifier_at t ≡ offset_at u
unfolding modifier_at
at_offset t u b e f = ap modifier_at (e ∙ ap (λ x. x ∷ u) f)

differs : (b c : ℕ) → b ≢ c → (b == c) ≡ false
differs b c n = grind (arith, common_steps)

pub at_letter : (t u : List ℕ) (b n : ℕ) → t ≡ b ∷ u → b ≢ 64 → b ≢ 40 → n ≡ quarters_of b → n ≢ 0 → modifier_at t ≡ Some (Quarters n, u)
unfolding modifier_at
at_letter t u b n e f g q h = ap modifier_at e ∙ rw (differs b 64 f) (rw (differs b 40 g) (by_none (quarters_of b == 0) refl))
  where
    by_none : (none : Bool) → (quarters_of b == 0) ≡ none → if◌then◌else◌ {A = Option (Modifier × List ℕ)} none None (Some (Quarters (quarters_of b), u)) ≡ Some (Quarters n, u)
    by_none true z = absurd (h (q ∙ same_byte (quarters_of b) 0 z))
    by_none false z = ap (λ x. Some (Quarters x, u)) (sym q)

pub at_other : (t u : List ℕ) (b n : ℕ) → t ≡ b ∷ u → b ≢ 64 → b ≢ 40 → n ≡ quarters_of b → n ≡ 0 → modifier_at t ≡ None
unfolding modifier_at
at_other t u b n e f g q h = ap modifier_at e ∙ rw (differs b 64 f) (rw (differs b 40 g) (by_none (quarters_of b == 0) refl))
  where
    by_none : (none : Bool) → (quarters_of b == 0) ≡ none → if◌then◌else◌ {A = Option (Modifier × List ℕ)} none None (Some (Quarters (quarters_of b), u)) ≡ None
    by_none true z = refl
    by_none false z = let k : quarters_of b ≡ 0 = sym q ∙ h in absurd (grind (arith, common_steps, k))

-- a number that is kept, with the unit after it
pub measure_kept : (t behind rest : List ℕ) (n : ℕ) (v : ℤ) (u : LengthUnit) → number_at t ≡ Some (v, drop n t) → behind ≡ drop n t → is_large v ≡ false
    → (unit_at behind).0 ≡ u → (unit_at behind).1 ≡ rest → (a : Measure) × (measure_at t ≡ Some (a, rest)) × ((a ≡ record { number = v; unit = u }) × (is_large a.number ≡ false))
measure_kept t behind rest n v u found back small eu er =
    (record { number = v; unit = u }, measure_there t behind rest v u (found ∙ ap (λ r. Some (v, r)) (sym back)) eu er, (refl, small))

-- one that isn't kept
pub measure_lost : (t behind rest : List ℕ) (n : ℕ) (e : NumberError) (u : LengthUnit) → e ≡ TooLarge n → IsRefused t e → behind ≡ drop n t
    → (unit_at behind).0 ≡ u → (unit_at behind).1 ≡ rest → (a : Measure) × (measure_at t ≡ Some (a, rest)) × (is_large a.number ≡ true)
measure_lost t behind rest n e u is refused back eu er =
    let (v, large, found) = too_large t n e is refused in
    (record { number = v; unit = u }, measure_there t behind rest v u (found ∙ ap (λ r. Some (v, r)) (sym back)) eu er, large)

pub scale_kept : (t rest : List ℕ) (n : ℕ) (v : ℤ) → number_at t ≡ Some (v, drop n t) → rest ≡ drop n t → is_large v ≡ false
    → (m : Modifier) × (scale_at t ≡ Some (m, rest)) × ((m ≡ Scaled v) × (has_large m ≡ false))
scale_kept t rest n v found back small = (Scaled v, scale_from t rest v (found ∙ ap (λ r. Some (v, r)) (sym back)), (refl, small))

pub scale_lost : (t rest : List ℕ) (n : ℕ) (e : NumberError) → e ≡ TooLarge n → IsRefused t e → rest ≡ drop n t
    → (m : Modifier) × (scale_at t ≡ Some (m, rest)) × (has_large m ≡ true)
scale_lost t rest n e is refused back =
    let (v, large, found) = too_large t n e is refused in
    (Scaled v, scale_from t rest v (found ∙ ap (λ r. Some (v, r)) (sym back)), large)
