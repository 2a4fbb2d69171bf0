-- Units and measures at the front of a text.
use Rattle.std.proofs.Common.{inl, inr, arith, ◌≡◌, ℕ, List, [], ◌∷◌, ◌++◌, Bool, true, false, Option, Some, None, refl, sym, ap, subst, ◌∙◌, append_assoc}
use Rattle.std.specs.Prelude.{◌==◌, ◌&&◌, if◌then◌else◌, codes}
use Rattle.std.proofs.lemmas.Grind.{common_steps}
use Rattle.rules.specs.Papers.{LengthUnit, Pt, Cm, Mm, In, Width, Height}
use Rattle.rules.specs.Specification.{Measure, IsMeasure, unit_name}
use Rattle.lengths.specs.Reading.{number_at, EndsNumber}
use Rattle.lengths.proofs.Digits.{by_test}
use Rattle.lengths.proofs.Numbers.{number_found, number_read, some_same, same_byte}
use Rattle.pagespec.specs.Places.{IsUnit}
use Rattle.pagespec.specs.Reading.{◌>>=◌, byte_at, second_letter, unit_at, measure_from, measure_at}

-- what a step took, and what the next step made of that
pub bind_some : {A B : Type 0} (o : Option A) (f : A → Option B) (y : B) → (o >>= f) ≡ Some y → (x : A) × (o ≡ Some x) × (f x ≡ Some y)
bind_some None f y e = absurd (cc)
bind_some (Some x) f y e = (x, refl, e)

pub byte_found : (c : ℕ) (t rest : List ℕ) → byte_at c t ≡ Some rest → t ≡ c ∷ rest
byte_found c [] rest e = absurd (cc)
byte_found c (b ∷ t) rest e = elim (by_test (b == c)) [
  | inl h ↦ ap (λ x. x ∷ t) (same_byte b c h) ∙ ap (λ x. c ∷ x) (some_same t rest (sym (rw h refl) ∙ e))
  | inr h ↦ absurd (cc (e))
]

-- the text neither continues a unit nor begins with one
abbrev pub NoUnit : List ℕ → Type 0
NoUnit t = unit_at t ≡ (Pt, t)

pub unit_read : (u : LengthUnit) (rest : List ℕ) → unit_at (unit_name u ++ rest) ≡ (u, rest)
unit_read Pt rest = refl
unit_read Cm rest = refl
unit_read Mm rest = refl
unit_read In rest = refl
unit_read Width rest = refl
unit_read Height rest = refl

-- a unit is found, or there is none
abbrev pub Unit_found : List ℕ → LengthUnit × List ℕ → Type 0
Unit_found t x = (front : List ℕ) × (t ≡ front ++ x.1) × IsUnit front x.0

two_letters : (a b : ℕ) (t : List ℕ) (pt cm mm inch : Bool) → ((a == 112) && (b == 116)) ≡ pt → ((a == 99) && (b == 109)) ≡ cm → ((a == 109) && (b == 109)) ≡ mm → ((a == 105) && (b == 110)) ≡ inch
    → Unit_found (a ∷ b ∷ t) (if pt then (Pt, t) else (if cm then (Cm, t) else (if mm then (Mm, t) else (if inch then (In, t) else (Pt, a ∷ b ∷ t)))))
two_letters a b t true cm mm inch p c m i = (codes "pt", ap (λ x. x ∷ b ∷ t) ((grind (arith, common_steps))) ∙ ap (λ x. 112 ∷ x ∷ t) ((grind (arith, common_steps))), inl refl)
two_letters a b t false true mm inch p c m i = (codes "cm", ap (λ x. x ∷ b ∷ t) ((grind (arith, common_steps))) ∙ ap (λ x. 99 ∷ x ∷ t) ((grind (arith, common_steps))), inl refl)
two_letters a b t false false true inch p c m i = (codes "mm", ap (λ x. x ∷ b ∷ t) ((grind (arith, common_steps))) ∙ ap (λ x. 109 ∷ x ∷ t) ((grind (arith, common_steps))), inl refl)
two_letters a b t false false false true p c m i = (codes "in", ap (λ x. x ∷ b ∷ t) ((grind (arith, common_steps))) ∙ ap (λ x. 105 ∷ x ∷ t) ((grind (arith, common_steps))), inl refl)
two_letters a b t false false false false p c m i = ([], refl, inr (refl, refl))

second_found : (a : ℕ) (t : List ℕ) → Unit_found (a ∷ t) (second_letter a t)
second_found a [] = ([], refl, inr (refl, refl))
second_found a (b ∷ t) = two_letters a b t _ _ _ _ refl refl refl refl

one_letter : (a : ℕ) (t : List ℕ) (w h : Bool) → (a == 119) ≡ w → (a == 104) ≡ h → Unit_found (a ∷ t) (if w then (Width, t) else (if h then (Height, t) else second_letter a t))
one_letter a t true h p q = (codes "w", ap (λ x. x ∷ t) (same_byte a 119 p), inl refl)
one_letter a t false true p q = (codes "h", ap (λ x. x ∷ t) (same_byte a 104 q), inl refl)
one_letter a t false false p q = second_found a t

pub unit_found : (t : List ℕ) → Unit_found t (unit_at t)
unit_found [] = ([], refl, inr (refl, refl))
unit_found (a ∷ t) = one_letter a t _ _ refl refl

-- what is read is a measure, and the front of the text
pub measure_found : (t rest : List ℕ) (a : Measure) → measure_at t ≡ Some (a, rest) → (front : List ℕ) × (t ≡ front ++ rest) × IsMeasure front a
unfolding measure_at
measure_found t rest a e =
    let (v, found, same) = bind_some (number_at t) _ (a, rest) e in
    let (number, t_is, is) = number_found t v.1 v.0 found in
    let (unit, u_is, is_unit) = unit_found v.1 in
    let both : measure_from v.0 (unit_at v.1) ≡ (a, rest) = some_same _ _ same in
    subst (λ x. (front : List ℕ) × (t ≡ front ++ x.1) × IsMeasure front x.0) both
    (number ++ unit, t_is ∙ (ap (λ x. number ++ x) u_is ∙ sym (append_assoc number unit (unit_at v.1).1)), (number, unit, refl, is, is_unit))

-- a unit's letters are neither digits nor dots
unit_ends : (u : LengthUnit) (rest : List ℕ) → EndsNumber (unit_name u ++ rest)
unit_ends Pt rest = (refl, refl)
unit_ends Cm rest = (refl, refl)
unit_ends Mm rest = (refl, refl)
unit_ends In rest = (refl, refl)
unit_ends Width rest = (refl, refl)
unit_ends Height rest = (refl, refl)

is_unit_ends : (unit rest : List ℕ) (u : LengthUnit) → IsUnit unit u → EndsNumber rest → EndsNumber (unit ++ rest)
is_unit_ends unit rest u (inl e) ends = subst (λ x. EndsNumber (x ++ rest)) (sym e) (unit_ends u rest)
is_unit_ends unit rest u (inr e) ends = subst (λ x. EndsNumber (x ++ rest)) (sym e.0) ends

is_unit_read : (unit rest : List ℕ) (u : LengthUnit) → IsUnit unit u → NoUnit rest → unit_at (unit ++ rest) ≡ (u, rest)
is_unit_read unit rest u (inl e) none = ap (λ x. unit_at (x ++ rest)) e ∙ unit_read u rest
is_unit_read unit rest u (inr e) none = ap (λ x. unit_at (x ++ rest)) e.0 ∙ (none ∙ ap (λ x. (x, rest)) (sym e.1))

pub measure_read : (text rest : List ℕ) (a : Measure) → IsMeasure text a → EndsNumber rest → NoUnit rest → measure_at (text ++ rest) ≡ Some (a, rest)
unfolding measure_at
measure_read text rest a (number, unit, e, is, is_unit) ends none =
    ap (λ x. measure_at (x ++ rest)) e ∙ (ap measure_at (append_assoc number unit rest)
    ∙ (ap (λ o. o >>= λ v. Some (measure_from v.0 (unit_at v.1))) (number_read number (unit ++ rest) a.number is (is_unit_ends unit rest a.unit is_unit ends))
    ∙ ap (λ u. Some (measure_from a.number u)) (is_unit_read unit rest a.unit is_unit none)))
