-- Modifiers at the front of a text.
use Rattle.std.proofs.Common.{inl, inr, arith, ◌≡◌, ◌≢◌, ℕ, zero, suc, ◌<◌, ◌≤◌, List, [], ◌∷◌, ◌++◌, Bool, true, false, Option, Some, None, refl, sym, ap, subst, ◌∙◌, append_assoc, length}
use Rattle.std.specs.Prelude.{◌==◌, ℤ, if◌then◌else◌}
use Rattle.std.proofs.lemmas.Grind.{common_steps}
use Rattle.std.proofs.lemmas.List.{length-append}
use Rattle.rules.specs.Numbers.{IsNumber}
use Rattle.rules.specs.Specification.{Measure, Modifier, Quarters, Scaled, Moved, IsMeasure, IsTurn, IsModifier, AreModifiers}
use Rattle.std.specs.Char.{is_ascii_digit}
use Rattle.lengths.specs.Reading.{number_at, EndsNumber}
use Rattle.lengths.proofs.Digits.{by_test}
use Rattle.lengths.proofs.Numbers.{number_found, number_read, some_same, same_byte}
use Rattle.pagespec.proofs.Letters.{letter_turn, turn_letter}
use Rattle.pagespec.specs.Reading.{quarters_of, byte_at, measure_at, offset_at, scale_at, modifier_at, modifiers_at, modifiers_or, with_modifier}
use Rattle.pagespec.proofs.Measures.{bind_some, byte_found, measure_found, measure_read, NoUnit}

-- a value was read, and its text is at the front
abbrev pub Stood : {X : Type 0} → (List ℕ → X → Type 0) → List ℕ → X × List ℕ → Type 0
Stood Is t x = (front : List ℕ) × (t ≡ front ++ x.1) × Is front x.0

scale_found : (b : ℕ) (t : List ℕ) (x : Modifier × List ℕ) → b ≡ 64 → scale_at t ≡ Some x → Stood IsModifier (b ∷ t) x
unfolding scale_at
scale_found b t x at e =
    let (v, found, same) = bind_some (number_at t) _ x e in
    let (number, t_is, is) = number_found t v.1 v.0 found in
    subst (Stood IsModifier (b ∷ t)) (some_same _ _ same) (64 ∷ number, ap (λ y. y ∷ t) at ∙ ap (λ y. 64 ∷ y) t_is, (number, refl, is))

offset_text : (b : ℕ) (t first t2 second rest : List ℕ) (u w : List ℕ) → b ≡ 40 → t ≡ first ++ u → u ≡ 44 ∷ t2 → t2 ≡ second ++ w → w ≡ 41 ∷ rest
    → b ∷ t ≡ (40 ∷ first ++ 44 ∷ second ++ 41 ∷ []) ++ rest
offset_text b t first t2 second rest u w eb et eu et2 ew =
    ap (λ y. y ∷ t) eb ∙ ap (λ y. 40 ∷ y) (et ∙ (ap (λ y. first ++ y) (eu ∙ ap (λ y. 44 ∷ y) (et2 ∙ ap (λ y. second ++ y) ew)) ∙ (sym (append_assoc first (44 ∷ second) (41 ∷ rest)) ∙ sym (append_assoc (first ++ 44 ∷ second) (41 ∷ []) rest))))

offset_found : (b : ℕ) (t : List ℕ) (m : Modifier × List ℕ) → b ≡ 40 → offset_at t ≡ Some m → Stood IsModifier (b ∷ t) m
unfolding offset_at
offset_found b t m at e =
    let (x, e1, f1) = bind_some (measure_at t) _ m e in
    let (t2, e2, f2) = bind_some (byte_at 44 x.1) _ m f1 in
    let (y, e3, f3) = bind_some (measure_at t2) _ m f2 in
    let (rest, e4, same) = bind_some (byte_at 41 y.1) _ m f3 in
    let (first, t_is, is_x) = measure_found t x.1 x.0 e1 in
    let (second, t2_is, is_y) = measure_found t2 y.1 y.0 e3 in
    subst (Stood IsModifier (b ∷ t)) (some_same _ _ same)
    (40 ∷ first ++ 44 ∷ second ++ 41 ∷ [], offset_text b t first t2 second rest x.1 y.1 at t_is (byte_found 44 x.1 t2 e2) t2_is (byte_found 41 y.1 rest e4), (first, second, refl, is_x, is_y))

turn_found : (b : ℕ) (t : List ℕ) (n : ℕ) (m : Modifier × List ℕ) (none : Bool) → quarters_of b ≡ n → (n == 0) ≡ none → (if none then None else Some (Quarters n, t)) ≡ Some m → Stood IsModifier (b ∷ t) m
turn_found b t n m true q z e = absurd (cc (e))
turn_found b t n m false q z e =
    let some : quarters_of b ≢ 0 = λ zero_is. absurd (cc (z, ap (λ k. k == 0) (sym q ∙ zero_is))) in
    subst (Stood IsModifier (b ∷ t)) (some_same _ _ e) (b ∷ [], refl, subst (IsTurn (b ∷ [])) q (letter_turn b some))

letter_found : (b : ℕ) (t : List ℕ) (m : Modifier × List ℕ) (at bracket : Bool) → (b == 64) ≡ at → (b == 40) ≡ bracket
    → (if at then scale_at t else (if bracket then offset_at t else (if quarters_of b == 0 then None else Some (Quarters (quarters_of b), t)))) ≡ Some m → Stood IsModifier (b ∷ t) m
letter_found b t m true bracket p q e = scale_found b t m (same_byte b 64 p) e
letter_found b t m false true p q e = offset_found b t m (same_byte b 40 q) e
letter_found b t m false false p q e = turn_found b t (quarters_of b) m _ refl refl e

-- what is read is a modifier, and the front of the text
pub modifier_found : (t : List ℕ) (m : Modifier × List ℕ) → modifier_at t ≡ Some m → Stood IsModifier t m
unfolding modifier_at
modifier_found [] m e = absurd (cc (e))
modifier_found (b ∷ t) m e = letter_found b t m _ _ refl refl e

found_or : (k : ℕ) (t : List ℕ) → ((u : List ℕ) → Stood AreModifiers u (modifiers_at k u)) → (o : Option (Modifier × List ℕ)) → modifier_at t ≡ o → Stood AreModifiers t (modifiers_or (λ u. modifiers_at k u) t o)
found_or k t more None e = ([], refl, refl)
found_or k t more (Some m) e =
    let (front, t_is, is) = modifier_found t m e in
    let (rest, m_is, are) = more m.1 in
    (front ++ rest, t_is ∙ (ap (λ y. front ++ y) m_is ∙ sym (append_assoc front rest _)), (front, rest, refl, is, are))

pub modifiers_found : (k : ℕ) (t : List ℕ) → Stood AreModifiers t (modifiers_at k t)
unfolding modifiers_at
modifiers_found zero t = ([], refl, refl)
modifiers_found (suc k) t = found_or k t (λ u. modifiers_found k u) (modifier_at t) refl

-- a letter of a turn is no other byte that means something
turn_ends : (b n : ℕ) → n ≡ quarters_of b → 0 < n → (t : List ℕ) → EndsNumber (b ∷ t)
turn_ends b n q h t = (elim (by_test (is_ascii_digit b)) [ inl e ↦ absurd (grind (arith, common_steps)) | inr e ↦ e ], elim (by_test (b == 46)) [ inl e ↦ absurd (grind (arith, common_steps)) | inr e ↦ e ])

modifier_ends : (m : Modifier) (text rest : List ℕ) → IsModifier text m → EndsNumber (text ++ rest)
modifier_ends (Quarters n) text rest is = let (letter, e, q, h) = turn_letter text n is in subst (λ x. EndsNumber (x ++ rest)) (sym e) (turn_ends letter n q h rest)
modifier_ends (Scaled v) text rest (number, e, is) = subst (λ x. EndsNumber (x ++ rest)) (sym e) (refl, refl)
modifier_ends (Moved x y) text rest (first, second, e, is, is_y) = subst (λ x. EndsNumber (x ++ rest)) (sym e) (refl, refl)

pub modifiers_end : (ms : List Modifier) (text rest : List ℕ) → AreModifiers text ms → EndsNumber rest → EndsNumber (text ++ rest)
modifiers_end [] text rest e ends = subst (λ x. EndsNumber (x ++ rest)) (sym e) ends
modifiers_end (m ∷ ms) text rest (front, more, e, is, are) ends =
    subst EndsNumber (sym (ap (λ x. x ++ rest) e ∙ append_assoc front more rest)) (modifier_ends m front (more ++ rest) is)

not_at : (b n : ℕ) → n ≡ quarters_of b → 0 < n → (b == 64) ≡ false
not_at b n q h = elim (by_test (b == 64)) [ inl e ↦ absurd (grind (arith, common_steps)) | inr e ↦ e ]

not_bracket : (b n : ℕ) → n ≡ quarters_of b → 0 < n → (b == 40) ≡ false
not_bracket b n q h = elim (by_test (b == 40)) [ inl e ↦ absurd (grind (arith, common_steps)) | inr e ↦ e ]

not_none : (b n : ℕ) → n ≡ quarters_of b → 0 < n → (quarters_of b == 0) ≡ false
not_none b n q h = elim (by_test (quarters_of b == 0)) [ inl e ↦ absurd (omega (arith, same_byte (quarters_of b) 0 e, q)) | inr e ↦ e ]

pub turn_read : (b n : ℕ) (t : List ℕ) (at bracket none : Bool) → (b == 64) ≡ at → (b == 40) ≡ bracket → (quarters_of b == 0) ≡ none → n ≡ quarters_of b → 0 < n
    → (if at then scale_at t else (if bracket then offset_at t else (if none then None else Some (Quarters (quarters_of b), t)))) ≡ Some (Quarters n, t)
turn_read b n t true bracket none p q z e h = absurd (cc (p, not_at b n e h))
turn_read b n t false true none p q z e h = absurd (cc (q, not_bracket b n e h))
turn_read b n t false false true p q z e h = absurd (cc (z, not_none b n e h))
turn_read b n t false false false p q z e h = ap (λ x. Some (Quarters x, t)) (sym e)

pub comma_no_unit : (t : List ℕ) → NoUnit (44 ∷ t)
comma_no_unit [] = refl
comma_no_unit (b ∷ t) = refl

bracket_no_unit : (t : List ℕ) → NoUnit (41 ∷ t)
bracket_no_unit [] = refl
bracket_no_unit (b ∷ t) = refl

pub offset_read : (first second rest : List ℕ) (x y : Measure) → IsMeasure first x → IsMeasure second y → offset_at (first ++ (44 ∷ (second ++ (41 ∷ rest)))) ≡ Some (Moved x y, rest)
unfolding offset_at
offset_read first second rest x y is_x is_y =
    let a = measure_read first (44 ∷ (second ++ (41 ∷ rest))) x is_x (refl, refl) (comma_no_unit _) in
    let b = measure_read second (41 ∷ rest) y is_y (refl, refl) (bracket_no_unit rest) in
    rw a (rw b refl)

scale_read : (number rest : List ℕ) (v : ℤ) → IsNumber number v → EndsNumber rest → scale_at (number ++ rest) ≡ Some (Scaled v, rest)
unfolding scale_at
scale_read number rest v is ends = rw (number_read number rest v is ends) refl

pub modifier_read : (m : Modifier) (text rest : List ℕ) → IsModifier text m → EndsNumber rest → modifier_at (text ++ rest) ≡ Some (m, rest)
unfolding modifier_at
modifier_read (Quarters n) text rest is ends = let (letter, e, q, h) = turn_letter text n is in ap (λ x. modifier_at (x ++ rest)) e ∙ turn_read letter n rest _ _ _ refl refl refl q h
modifier_read (Scaled v) text rest (number, e, is) ends = ap (λ x. modifier_at (x ++ rest)) e ∙ scale_read number rest v is ends
modifier_read (Moved x y) text rest (first, second, e, is_x, is_y) ends =
    ap (λ x. modifier_at (x ++ rest)) e ∙ (ap (λ z. modifier_at (40 ∷ z)) (append_assoc (first ++ 44 ∷ second) (41 ∷ []) rest ∙ append_assoc first (44 ∷ second) (41 ∷ rest))
    ∙ offset_read first second rest x y is_x is_y)

-- modifiers are read whole, where no other follows
pub modifiers_read : (k : ℕ) (ms : List Modifier) (text rest : List ℕ) → AreModifiers text ms → EndsNumber rest → modifier_at rest ≡ None → length ms ≤ k → modifiers_at k (text ++ rest) ≡ (ms, rest)
unfolding modifiers_at
modifiers_read zero [] text rest e ends none h = ap (λ x. ([], x ++ rest)) e
modifiers_read (suc k) [] text rest e ends none h = ap (λ x. modifiers_at (suc k) (x ++ rest)) e ∙ rw none refl
modifiers_read zero (m ∷ ms) text rest are ends none h = absurd (omega arith)
modifiers_read (suc k) (m ∷ ms) text rest (front, more, e, is, are) ends none h =
    ap (modifiers_at (suc k)) (ap (λ x. x ++ rest) e ∙ append_assoc front more rest)
    ∙ (ap (modifiers_or (λ u. modifiers_at k u) (front ++ (more ++ rest))) (modifier_read m front (more ++ rest) is (modifiers_end ms more rest are ends))
    ∙ ap (with_modifier m) (modifiers_read k ms more rest are ends none (omega arith)))

-- each modifier has at least one byte
pub some_byte : (m : Modifier) (text : List ℕ) → IsModifier text m → 0 < length text
some_byte (Quarters n) text is = let (letter, e, q, more) = turn_letter text n is in subst (λ x. 0 < length x) (sym e) (omega arith)
some_byte (Scaled v) text (number, e, is) = subst (λ x. 0 < length x) (sym e) (omega arith)
some_byte (Moved x y) text (first, second, e, is, is_y) = subst (λ x. 0 < length x) (sym e) (omega arith)

pub few_modifiers : (ms : List Modifier) (text : List ℕ) → AreModifiers text ms → length ms ≤ length text
few_modifiers [] text are = omega arith
few_modifiers (m ∷ ms) text (front, more, e, is, are) = omega (arith, ap length e, length-append front more, some_byte m front is, few_modifiers ms more are)
