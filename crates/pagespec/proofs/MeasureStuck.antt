-- Where no unit, measure, scale or offset can be read on.
use Rattle.std.proofs.Common.{inl, inr, arith, ◌≡◌, ℕ, ◌≤◌, min, List, [], ◌∷◌, ◌++◌, Bool, true, false, Option, Some, None, refl, sym, ap, subst, ◌∙◌, append_assoc, append-nil, length, take}
use Rattle.std.specs.Prelude.{◌==◌, ◌||◌, ℤ, if◌then◌else◌}
use Rattle.std.proofs.Math.Nat.{min-eq_left, min-eq_right}
use Rattle.rules.specs.Numbers.{IsNumber}
use Rattle.rules.specs.Papers.{LengthUnit, Pt, Cm, Mm, In, Width, Height}
use Rattle.rules.specs.Specification.{Measure, Modifier, Scaled, Moved, IsMeasure, IsModifier, unit_name}
use Rattle.lengths.specs.Reading.{number_at}
use Rattle.lengths.proofs.Numbers.{number_found, some_same, same_byte}
use Rattle.lengths.proofs.Digits.{by_test}
use Rattle.pagespec.specs.Reading.{byte_at, unit_at, past_letter, measure_from, measure_at, scale_at, offset_at}
use Rattle.pagespec.specs.Places.{IsStuck, StuckIn, StuckAfter, ReadsBefore, IsUnit}
use Rattle.pagespec.proofs.Measures.{byte_found, measure_found, measure_read, unit_found, unit_read}
use Rattle.pagespec.proofs.Modifiers.{comma_no_unit}
use Rattle.pagespec.proofs.Scans.{no_measure, scale_none, no_first, no_comma, no_second, no_bracket}
use Rattle.pagespec.proofs.NumberPlaces.{number_alike, byte_alike}
use Rattle.pagespec.proofs.NumberStuck.{zero_number}
use Rattle.pagespec.proofs.StuckPlaces.{stuck_behind, stuck_there}

abbrev pub IsSome : {X : Type 0} → (List ℕ → X → Type 0) → List ℕ → Type 0
IsSome {X = X} R t = (x : X) × R t x

abbrev pub Nothing : {Y : Type 0} → (List ℕ → Option Y) → List ℕ → Type 0
Nothing part t = part t ≡ None

-- after a unit
abbrev pub UnitStuck : (t rest : List ℕ) → ℕ → Type 0
UnitStuck t rest left = StuckAfter IsUnit (λ x. Some (unit_at x)) t rest left

unit_ended : (u : LengthUnit) (t rest : List ℕ) → t ≡ unit_name u ++ rest → UnitStuck t rest (length rest)
unit_ended u t rest e = record {
  front = unit_name u;
  back = rest;
  split = e;
  left_is = refl;
  more = [];
  begun = (u, inl (append-nil (unit_name u)));
  fails = λ b tail is after. (u, b ∷ after, ap (λ x. Some x) (unit_read u (b ∷ after)), ap (take 1) (sym is));
}

not_shorter : (a : ℕ) (t : List ℕ) → t ≡ a ∷ t → ⊥
not_shorter a t e = omega (arith, ap length e)

not_much_shorter : (a b : ℕ) (t : List ℕ) → t ≡ a ∷ b ∷ t → ⊥
not_much_shorter a b t e = omega (arith, ap length e)

first : {A : Type 0} (b : Bool) (x y : A) → b ≡ true → (if b then x else y) ≡ x
first true x y e = refl
first false x y e = absurd (cc (e))

otherwise : {A : Type 0} (b : Bool) (x y : A) → b ≡ false → (if b then x else y) ≡ y
otherwise true x y e = absurd (cc (e))
otherwise false x y e = refl

-- after the first letter of two
letter_ended : (a second : ℕ) (u : LengthUnit) → unit_name u ≡ a ∷ second ∷ [] → ((b : ℕ) (t : List ℕ) → unit_at (a ∷ b ∷ t) ≡ (if b == second then (u, t) else (Pt, a ∷ b ∷ t)))
    → (t : List ℕ) → (unit_at (a ∷ t)).1 ≡ a ∷ t → UnitStuck (a ∷ t) (a ∷ t) (length t)
letter_ended a second u name table t none = record {
  front = a ∷ [];
  back = t;
  split = refl;
  left_is = refl;
  more = second ∷ [];
  begun = (u, inl (sym name));
  fails = λ b tail is after. (Pt, a ∷ b ∷ after, ap (λ x. Some x) (unread b after (other b tail is)), refl);
}
  where
    unread : (b : ℕ) (after : List ℕ) → (b == second) ≡ false → unit_at (a ∷ b ∷ after) ≡ (Pt, a ∷ b ∷ after)
    unread b after h = table b after ∙ otherwise (b == second) (u, after) (Pt, a ∷ b ∷ after) h

    there : (b : ℕ) (tail : List ℕ) → (b == second) ≡ true → (unit_at (a ∷ b ∷ tail)).1 ≡ tail
    there b tail h = ap (λ x. x.1) (table b tail ∙ first (b == second) (u, tail) (Pt, a ∷ b ∷ tail) h)

    other : (b : ℕ) (tail : List ℕ) → t ≡ b ∷ tail → (b == second) ≡ false
    other b tail is = elim (by_test (b == second)) [
      | inl h ↦ absurd (not_much_shorter a b tail (sym (there b tail h) ∙ (ap (λ x. (unit_at (a ∷ x)).1) (sym is) ∙ (none ∙ ap (λ x. a ∷ x) is))))
      | inr h ↦ h
    ]

-- where no unit begins
no_unit : (a : ℕ) (t : List ℕ) → (a == 119) ≡ false → (a == 104) ≡ false → (a == 112) ≡ false → (a == 99) ≡ false → (a == 109) ≡ false → (a == 105) ≡ false → unit_at (a ∷ t) ≡ (Pt, a ∷ t)
no_unit a [] w h p c m i = rw (w, h) refl
no_unit a (b ∷ t) w h p c m i = rw (w, h, p, c, m, i) refl

none_ended : (t : List ℕ) → ((b : ℕ) (tail : List ℕ) → t ≡ b ∷ tail → (after : List ℕ) → unit_at (b ∷ after) ≡ (Pt, b ∷ after)) → UnitStuck t t (length t)
none_ended t none = record {
  front = [];
  back = t;
  split = refl;
  left_is = refl;
  more = [];
  begun = (Pt, inr (refl, refl));
  fails = λ b tail is after. (Pt, b ∷ after, ap (λ x. Some x) (none b tail is after), ap (take 1) (sym is));
}

no_width : (a : ℕ) (t : List ℕ) → (unit_at (a ∷ t)).1 ≡ a ∷ t → (a == 119) ≡ false
no_width a t none = elim (by_test (a == 119)) [ inl h ↦ absurd (not_shorter a t (sym (there h) ∙ none)) | inr h ↦ h ]
  where
    there : (a == 119) ≡ true → (unit_at (a ∷ t)).1 ≡ t
    there h = rw h refl

no_height : (a : ℕ) (t : List ℕ) → (unit_at (a ∷ t)).1 ≡ a ∷ t → (a == 119) ≡ false → (a == 104) ≡ false
no_height a t none w = elim (by_test (a == 104)) [ inl h ↦ absurd (not_shorter a t (sym (there h) ∙ none)) | inr h ↦ h ]
  where
    there : (a == 104) ≡ true → (unit_at (a ∷ t)).1 ≡ t
    there h = rw (w, h) refl

by_letter : (a : ℕ) (t : List ℕ) (p c m i : Bool) → (a == 112) ≡ p → (a == 99) ≡ c → (a == 109) ≡ m → (a == 105) ≡ i → (unit_at (a ∷ t)).1 ≡ a ∷ t
    → UnitStuck (a ∷ t) (a ∷ t) (length (if (p || c) || (m || i) then t else a ∷ t))
by_letter a t true c m i ep ec em ei none = let same : a ≡ 112 = same_byte a 112 ep in
    subst (λ x. UnitStuck (x ∷ t) (x ∷ t) (length t)) (sym same) (letter_ended 112 116 Pt refl (λ b u. refl) t (subst (λ x. (unit_at (x ∷ t)).1 ≡ x ∷ t) same none))
by_letter a t false true m i ep ec em ei none = let same : a ≡ 99 = same_byte a 99 ec in
    subst (λ x. UnitStuck (x ∷ t) (x ∷ t) (length t)) (sym same) (letter_ended 99 109 Cm refl (λ b u. refl) t (subst (λ x. (unit_at (x ∷ t)).1 ≡ x ∷ t) same none))
by_letter a t false false true i ep ec em ei none = let same : a ≡ 109 = same_byte a 109 em in
    subst (λ x. UnitStuck (x ∷ t) (x ∷ t) (length t)) (sym same) (letter_ended 109 109 Mm refl (λ b u. refl) t (subst (λ x. (unit_at (x ∷ t)).1 ≡ x ∷ t) same none))
by_letter a t false false false true ep ec em ei none = let same : a ≡ 105 = same_byte a 105 ei in
    subst (λ x. UnitStuck (x ∷ t) (x ∷ t) (length t)) (sym same) (letter_ended 105 110 In refl (λ b u. refl) t (subst (λ x. (unit_at (x ∷ t)).1 ≡ x ∷ t) same none))
by_letter a t false false false false ep ec em ei none =
    let w = no_width a t none in
    let h = no_height a t none w in
    none_ended (a ∷ t) (λ b tail is after. let same : a ≡ b = cc (is) in subst (λ x. unit_at (x ∷ after) ≡ (Pt, x ∷ after)) same (no_unit a after w h ep ec em ei))

nothing_read : (t : List ℕ) → (unit_at t).1 ≡ t → UnitStuck t t (length (past_letter t))
nothing_read [] none = none_ended [] (λ b tail is after. absurd (cc (is)))
nothing_read (a ∷ t) none = by_letter a t (a == 112) (a == 99) (a == 109) (a == 105) refl refl refl refl none

one_longer : (a : ℕ) (t : List ℕ) → length t ≤ length (a ∷ t)
one_longer a t = omega arith

-- a unit is longer than its first letter
past_unit : (u : LengthUnit) (rest : List ℕ) → length rest ≤ length (past_letter (unit_name u ++ rest))
past_unit Pt rest = one_longer 116 rest
past_unit Cm rest = one_longer 109 rest
past_unit Mm rest = one_longer 109 rest
past_unit In rest = one_longer 110 rest
past_unit Width rest = one_longer 119 rest
past_unit Height rest = one_longer 104 rest

past_within : (t : List ℕ) → length (past_letter t) ≤ length t
past_within [] = omega arith
past_within (a ∷ t) = by_bool (((a == 112) || (a == 99)) || ((a == 109) || (a == 105)))
  where
    by_bool : (b : Bool) → length (if b then t else a ∷ t) ≤ length (a ∷ t)
    by_bool true = one_longer a t
    by_bool false = omega arith

-- after the unit at the front, or its first letter
pub unit_stuck : (t rest half : List ℕ) (left : ℕ) → (unit_at t).1 ≡ rest → half ≡ past_letter t → left ≡ min (length rest) (length half) → UnitStuck t rest left
unit_stuck t rest half left r h e = let (front, split, is) = unit_found t in by_unit front split is
  where
    by_unit : (front : List ℕ) → t ≡ front ++ (unit_at t).1 → IsUnit front (unit_at t).0 → UnitStuck t rest left
    by_unit front split (inl name) =
        let whole : t ≡ unit_name (unit_at t).0 ++ rest = split ∙ (ap (λ x. x ++ (unit_at t).1) name ∙ ap (λ x. unit_name (unit_at t).0 ++ x) r) in
        let few : length rest ≤ length half = subst (λ x. length rest ≤ length x) (ap past_letter (sym whole) ∙ sym h) (past_unit (unit_at t).0 rest) in
        subst (λ n. UnitStuck t rest n) (sym (e ∙ min-eq_left few)) (unit_ended (unit_at t).0 t rest whole)
    by_unit front split (inr none) =
        let same : (unit_at t).1 ≡ t = sym (split ∙ ap (λ x. x ++ (unit_at t).1) none.0) in
        let all : rest ≡ t = sym r ∙ same in
        let few : length half ≤ length rest = subst (λ x. length half ≤ length x) (sym all) (subst (λ x. length x ≤ length t) (sym h) (past_within t)) in
        subst (λ n. UnitStuck t rest n) (sym (e ∙ (min-eq_right few ∙ ap length h))) (subst (λ x. UnitStuck t x (length (past_letter t))) (sym all) (nothing_read t same))

-- a number alone is a measure in points
number_measure : (t : List ℕ) → IsSome IsNumber t → (m : List ℕ) × IsSome IsMeasure (t ++ m)
number_measure t (v, is) = ([], (record { number = v; unit = Pt }, (t, [], refl, is, inr (refl, refl))))

pub measure_stuck : (t : List ℕ) (left : ℕ) → StuckIn IsNumber number_at t left → StuckIn IsMeasure measure_at t left
measure_stuck t left (none, s) =
    (no_measure t none, stuck_there (IsSome IsNumber) (Nothing number_at) (IsSome IsMeasure) (Nothing measure_at) t left number_measure (λ u l e. no_measure u e) s)

measure_again : (t : List ℕ) (v : ℤ) (r : List ℕ) → number_at t ≡ Some (v, r) → measure_at t ≡ Some (measure_from v (unit_at r))
unfolding measure_at
measure_again t v r e = rw e refl

pub measure_ended : (t behind rest : List ℕ) (v : ℤ) (left : ℕ) → number_at t ≡ Some (v, behind) → UnitStuck behind rest left → StuckAfter IsMeasure measure_at t rest left
measure_ended t behind rest v left found s =
    let (number, split, is) = number_found t behind v found in
    subst (λ x. StuckAfter IsMeasure measure_at x rest left) (sym split)
    (stuck_behind (IsSome IsUnit) (λ x. ReadsBefore rest (Some (unit_at x))) (IsSome IsMeasure) (λ x. ReadsBefore rest (measure_at x)) number behind left
    (λ unit (u, is_unit). ([], (record { number = v; unit = u }, subst (λ x. IsMeasure (number ++ x) (record { number = v; unit = u })) (sym (append-nil unit)) (number, unit, refl, is, is_unit))))
    (λ r l (u, after, e, begins). (
      record { number = v; unit = u },
      after,
      measure_again (number ++ r) v r (number_alike t behind number r v found split l) ∙ ap (λ x. Some (measure_from v x)) (some_same _ _ e),
      begins,
    ))
    s)

-- a scale after its sign
abbrev pub IsScaleAfter : List ℕ → Modifier → Type 0
IsScaleAfter t m = IsModifier (64 ∷ t) m

pub scale_stuck : (t : List ℕ) (left : ℕ) → StuckIn IsNumber number_at t left → StuckIn IsScaleAfter scale_at t left
scale_stuck t left (none, s) = (
  scale_none t none,
  stuck_there (IsSome IsNumber) (Nothing number_at) (IsSome IsScaleAfter) (Nothing scale_at) t left
      (λ x (v, is). ([], (Scaled v, subst (λ y. IsScaleAfter y (Scaled v)) (sym (append-nil x)) (x, refl, is)))) (λ u l e. scale_none u e) s,
)

-- an offset after its bracket
abbrev pub IsOffsetAfter : List ℕ → Modifier → Type 0
IsOffsetAfter t m = IsModifier (40 ∷ t) m

zero_measure : IsSome IsMeasure (48 ∷ [])
zero_measure = let (v, is) = zero_number in (record { number = v; unit = Pt }, (48 ∷ [], [], refl, is, inr (refl, refl)))

offset_text : (first second : List ℕ) → 40 ∷ (first ++ 44 ∷ (second ++ 41 ∷ [])) ≡ 40 ∷ first ++ 44 ∷ second ++ 41 ∷ []
offset_text first second = ap (λ y. 40 ∷ y) (sym (append_assoc first (44 ∷ second) (41 ∷ [])))

first_begun : (t : List ℕ) → IsSome IsMeasure t → (m : List ℕ) × IsSome IsOffsetAfter (t ++ m)
first_begun t (x, is) =
    let (y, is_y) = zero_measure in
    (44 ∷ 48 ∷ 41 ∷ [], (Moved x y, (t, 48 ∷ [], offset_text t (48 ∷ []), is, is_y)))

second_begun : (first : List ℕ) (x : Measure) → IsMeasure first x → (t : List ℕ) → IsSome IsMeasure t → (m : List ℕ) × IsSome IsOffsetAfter ((first ++ 44 ∷ []) ++ (t ++ m))
second_begun first x is t (y, is_y) =
    (41 ∷ [], (Moved x y, (first, t, ap (λ z. 40 ∷ z) (append_assoc first (44 ∷ []) (t ++ 41 ∷ [])) ∙ offset_text first t, is, is_y)))

pub first_stuck : (t : List ℕ) (left : ℕ) → StuckIn IsMeasure measure_at t left → StuckIn IsOffsetAfter offset_at t left
first_stuck t left (none, s) =
    (no_first t none, stuck_there (IsSome IsMeasure) (Nothing measure_at) (IsSome IsOffsetAfter) (Nothing offset_at) t left first_begun (λ u l e. no_first u e) s)

pub comma_stuck : (t rest : List ℕ) (left : ℕ) (x : Measure) → measure_at t ≡ Some (x, rest) → byte_at 44 rest ≡ None → StuckAfter IsMeasure measure_at t rest left → StuckIn IsOffsetAfter offset_at t left
comma_stuck t rest left x found none s = (
  no_comma t rest x found none,
  stuck_there (IsSome IsMeasure) (λ u. ReadsBefore rest (measure_at u)) (IsSome IsOffsetAfter) (Nothing offset_at) t left first_begun
      (λ u l (y, after, e, begins). no_comma u after y e (byte_alike 44 rest after begins none)) s,
)

-- a measure and a comma, before anything
second_read : (first u : List ℕ) (x : Measure) → IsMeasure first x → measure_at ((first ++ 44 ∷ []) ++ u) ≡ Some (x, 44 ∷ u)
second_read first u x is = ap measure_at (append_assoc first (44 ∷ []) u) ∙ measure_read first (44 ∷ u) x is (refl, refl) (comma_no_unit u)

second_split : (t rest second first : List ℕ) → t ≡ first ++ rest → rest ≡ 44 ∷ second → (first ++ 44 ∷ []) ++ second ≡ t
second_split t rest second first split e = append_assoc first (44 ∷ []) second ∙ (ap (λ x. first ++ x) (sym e) ∙ sym split)

pub second_stuck : (t rest second : List ℕ) (left : ℕ) (x : Measure) → measure_at t ≡ Some (x, rest) → byte_at 44 rest ≡ Some second → StuckIn IsMeasure measure_at second left → StuckIn IsOffsetAfter offset_at t left
second_stuck t rest second left x found comma (none, s) =
    let (first, split, is) = measure_found t rest x found in (
      no_second t rest second x found comma none,
      subst (λ y. IsStuck (IsSome IsOffsetAfter) (Nothing offset_at) y left) (second_split t rest second first split (byte_found 44 rest second comma))
          (stuck_behind (IsSome IsMeasure) (Nothing measure_at) (IsSome IsOffsetAfter) (Nothing offset_at) (first ++ 44 ∷ []) second left (second_begun first x is)
          (λ u l e. no_second ((first ++ 44 ∷ []) ++ u) (44 ∷ u) u x (second_read first u x is) refl e) s),
    )

pub bracket_stuck : (t rest second behind : List ℕ) (left : ℕ) (x y : Measure) → measure_at t ≡ Some (x, rest) → byte_at 44 rest ≡ Some second → measure_at second ≡ Some (y, behind) → byte_at 41 behind ≡ None
    → StuckAfter IsMeasure measure_at second behind left → StuckIn IsOffsetAfter offset_at t left
bracket_stuck t rest second behind left x y found comma found_y none s =
    let (first, split, is) = measure_found t rest x found in (
      no_bracket t rest second behind x y found comma found_y none,
      subst (λ z. IsStuck (IsSome IsOffsetAfter) (Nothing offset_at) z left) (second_split t rest second first split (byte_found 44 rest second comma))
          (stuck_behind (IsSome IsMeasure) (λ u. ReadsBefore behind (measure_at u)) (IsSome IsOffsetAfter) (Nothing offset_at) (first ++ 44 ∷ []) second left (second_begun first x is)
          (λ u l (z, after, e, begins). no_bracket ((first ++ 44 ∷ []) ++ u) (44 ∷ u) u after x z (second_read first u x is) refl e (byte_alike 41 behind after begins none)) s),
    )
