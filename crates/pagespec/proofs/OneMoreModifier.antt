-- The result of modifiers with one more.
use Rattle.std.proofs.Common.{arith, ◌≡◌, ℕ, ◌+◌, ◌%◌, List, [], ◌∷◌, ◌++◌, Bool, true, false, Option, Some, None, cond, refl, sym, ap, subst, ◌∙◌}
use Rattle.std.specs.Prelude.{ℤ, pos, int_le, not, ◌||◌, nat_lt, count_by, option_map}
use Rattle.std.specs.List.{list_any}
use Rattle.std.specs.Option.{option_or, is_some}
use Rattle.std.proofs.lemmas.Grind.{common_steps}
use Rattle.std.proofs.lemmas.List.Folds.{list_any-append}
use Rattle.std.proofs.lemmas.List.Sums.{sum_by-append}
use Rattle.rules.specs.Specification.{Measure, Modifier, Quarters, Scaled, Moved, quarters}
use Rattle.rules.specs.Admissible.{has_large, is_scale, is_offset, is_flat}
use Rattle.pagespec.specs.Items.{measure_of}
use Rattle.pagespec.specs.Views.{StandsFor}
use Rattle.pagespec.specs.Parsed.{Summarizes, first_scale, first_offset, is_repeated}
use Rattle.pagespec.specs.declared.item.Measure.{Measure as ParsedMeasure}
use Rattle.pagespec.specs.declared.parsed.Modifiers.{Modifiers}
use Rattle.pagespec.specs.declared.scan.Modifier.{Modifier as Part}
use Rattle.pagespec.specs.declared.scan.Modifier.TheVariants.{Turn, Scale, Offset, TooLarge}

quarters_turn : (ms : List Modifier) (n : ℕ) → quarters (ms ++ Quarters n ∷ []) ≡ quarters ms + n
quarters_turn [] n = omega arith
quarters_turn (Quarters k ∷ ms) n = omega (arith, quarters_turn ms n)
quarters_turn (Scaled v ∷ ms) n = quarters_turn ms n
quarters_turn (Moved x y ∷ ms) n = quarters_turn ms n

quarters_scale : (ms : List Modifier) (v : ℤ) → quarters (ms ++ Scaled v ∷ []) ≡ quarters ms
quarters_scale [] v = refl
quarters_scale (Quarters k ∷ ms) v = ap (λ x. k + x) (quarters_scale ms v)
quarters_scale (Scaled w ∷ ms) v = quarters_scale ms v
quarters_scale (Moved x y ∷ ms) v = quarters_scale ms v

quarters_move : (ms : List Modifier) (a b : Measure) → quarters (ms ++ Moved a b ∷ []) ≡ quarters ms
quarters_move [] a b = refl
quarters_move (Quarters k ∷ ms) a b = ap (λ x. k + x) (quarters_move ms a b)
quarters_move (Scaled w ∷ ms) a b = quarters_move ms a b
quarters_move (Moved x y ∷ ms) a b = quarters_move ms a b

-- the scale that a modifier brings, and the offset
abbrev scale_of : Modifier → Option ℤ
scale_of (Quarters n) = None
scale_of (Scaled v) = Some v
scale_of (Moved x y) = None

abbrev move_of : Modifier → Option (Measure × Measure)
move_of (Quarters n) = None
move_of (Scaled v) = None
move_of (Moved x y) = Some (x, y)

scale_more : (ms : List Modifier) (m : Modifier) → first_scale (ms ++ m ∷ []) ≡ option_or (first_scale ms) (scale_of m)
scale_more [] (Quarters n) = refl
scale_more [] (Scaled v) = refl
scale_more [] (Moved x y) = refl
scale_more (Quarters k ∷ ms) m = scale_more ms m
scale_more (Scaled w ∷ ms) m = refl
scale_more (Moved x y ∷ ms) m = scale_more ms m

move_more : (ms : List Modifier) (m : Modifier) → first_offset (ms ++ m ∷ []) ≡ option_or (first_offset ms) (move_of m)
move_more [] (Quarters n) = refl
move_more [] (Scaled v) = refl
move_more [] (Moved x y) = refl
move_more (Quarters k ∷ ms) m = move_more ms m
move_more (Scaled w ∷ ms) m = move_more ms m
move_more (Moved x y ∷ ms) m = refl

or_none : {A : Type 0} (o : Option A) → option_or o None ≡ o
or_none None = refl
or_none (Some x) = refl

or_false : (b : Bool) → (b || false) ≡ b
or_false true = refl
or_false false = refl

any_more : (p : Modifier → Bool) (ms : List Modifier) (m : Modifier) → list_any p (ms ++ m ∷ []) ≡ (list_any p ms || p m)
any_more p ms m = list_any-append p ms (m ∷ []) ∙ ap (λ b. list_any p ms || b) (or_false (p m))

count_more : (p : Modifier → Bool) (ms : List Modifier) (m : Modifier) → count_by p (ms ++ m ∷ []) ≡ count_by p ms + count_by p (m ∷ [])
count_more p ms m = sum_by-append (λ x. cond (p x) 1 0) ms (m ∷ [])

-- where a scale was counted, there is one
some_scale : (ms : List Modifier) → nat_lt 0 (count_by is_scale ms) ≡ is_some (first_scale ms)
some_scale [] = refl
some_scale (Quarters k ∷ ms) = some_scale ms
some_scale (Scaled w ∷ ms) = grind (arith, common_steps)
some_scale (Moved x y ∷ ms) = some_scale ms

some_move : (ms : List Modifier) → nat_lt 0 (count_by is_offset ms) ≡ is_some (first_offset ms)
some_move [] = refl
some_move (Quarters k ∷ ms) = some_move ms
some_move (Scaled w ∷ ms) = some_move ms
some_move (Moved x y ∷ ms) = grind (arith, common_steps)

two_or_more : (n : ℕ) → nat_lt 1 (n + 1) ≡ (nat_lt 1 n || nat_lt 0 n)
two_or_more n = grind (arith, common_steps)

same_scales : (ms : List Modifier) (m : Modifier) → is_scale m ≡ false → count_by is_scale (ms ++ m ∷ []) ≡ count_by is_scale ms
same_scales ms (Quarters n) e = omega (arith, count_more is_scale ms (Quarters n))
same_scales ms (Scaled v) e = absurd (cc (e))
same_scales ms (Moved x y) e = omega (arith, count_more is_scale ms (Moved x y))

same_moves : (ms : List Modifier) (m : Modifier) → is_offset m ≡ false → count_by is_offset (ms ++ m ∷ []) ≡ count_by is_offset ms
same_moves ms (Quarters n) e = omega (arith, count_more is_offset ms (Quarters n))
same_moves ms (Scaled v) e = omega (arith, count_more is_offset ms (Scaled v))
same_moves ms (Moved x y) e = absurd (cc (e))

one_scale : (ms : List Modifier) (v : ℤ) → count_by is_scale (ms ++ Scaled v ∷ []) ≡ count_by is_scale ms + 1
one_scale ms v = omega (arith, count_more is_scale ms (Scaled v))

one_move : (ms : List Modifier) (x y : Measure) → count_by is_offset (ms ++ Moved x y ∷ []) ≡ count_by is_offset ms + 1
one_move ms x y = omega (arith, count_more is_offset ms (Moved x y))

swap_last : (a b z : Bool) → ((a || z) || b) ≡ ((a || b) || z)
swap_last true b z = refl
swap_last false true true = refl
swap_last false true false = refl
swap_last false false true = refl
swap_last false false false = refl

move_last : (a b z : Bool) → (a || (b || z)) ≡ ((a || b) || z)
move_last true b z = refl
move_last false b z = refl

repeated_turn : (ms : List Modifier) (n : ℕ) → is_repeated (ms ++ Quarters n ∷ []) ≡ is_repeated ms
repeated_turn ms n =
    ap (λ k. nat_lt 1 k || nat_lt 1 (count_by is_offset (ms ++ Quarters n ∷ []))) (same_scales ms (Quarters n) refl) ∙ ap (λ k. nat_lt 1 (count_by is_scale ms) || nat_lt 1 k) (same_moves ms (Quarters n) refl)

repeated_scale : (ms : List Modifier) (v : ℤ) → is_repeated (ms ++ Scaled v ∷ []) ≡ (is_repeated ms || is_some (first_scale ms))
repeated_scale ms v =
    ap (λ k. nat_lt 1 k || nat_lt 1 (count_by is_offset (ms ++ Scaled v ∷ []))) (one_scale ms v)
    ∙ (ap (λ k. nat_lt 1 (count_by is_scale ms + 1) || nat_lt 1 k) (same_moves ms (Scaled v) refl)
    ∙ (ap (λ b. b || nat_lt 1 (count_by is_offset ms)) (two_or_more (count_by is_scale ms) ∙ ap (λ b. nat_lt 1 (count_by is_scale ms) || b) (some_scale ms))
    ∙ swap_last (nat_lt 1 (count_by is_scale ms)) (nat_lt 1 (count_by is_offset ms)) (is_some (first_scale ms))))

repeated_move : (ms : List Modifier) (x y : Measure) → is_repeated (ms ++ Moved x y ∷ []) ≡ (is_repeated ms || is_some (first_offset ms))
repeated_move ms x y =
    ap (λ k. nat_lt 1 k || nat_lt 1 (count_by is_offset (ms ++ Moved x y ∷ []))) (same_scales ms (Moved x y) refl)
    ∙ (ap (λ k. nat_lt 1 (count_by is_scale ms) || nat_lt 1 k) (one_move ms x y)
    ∙ (ap (λ b. nat_lt 1 (count_by is_scale ms) || b) (two_or_more (count_by is_offset ms) ∙ ap (λ b. nat_lt 1 (count_by is_offset ms) || b) (some_move ms))
    ∙ move_last (nat_lt 1 (count_by is_scale ms)) (nat_lt 1 (count_by is_offset ms)) (is_some (first_offset ms))))

is_some-map : {A B : Type 0} (f : A → B) (o : Option A) → is_some (option_map f o) ≡ is_some o
is_some-map f None = refl
is_some-map f (Some x) = refl

map-or : {A B : Type 0} (f : A → B) (o p : Option A) → option_map f (option_or o p) ≡ option_or (option_map f o) (option_map f p)
map-or f None p = refl
map-or f (Some x) p = refl

quarters_sum : (q n k : ℕ) → q ≡ k % 4 → (q % 4 + n % 4) % 4 ≡ (k + n) % 4
quarters_sum q n k e = omega arith

pub shows_turn : (ms : List Modifier) (s : Modifiers) (n : ℕ) → Summarizes ms s → Summarizes (ms ++ Quarters n ∷ []) (record s { quarters = (s.quarters % 4 + n % 4) % 4 })
shows_turn ms s n h = record {
  turn = quarters_sum s.quarters n (quarters ms) h.turn ∙ ap (λ k. k % 4) (sym (quarters_turn ms n));
  large = h.large ∙ sym (any_more has_large ms (Quarters n) ∙ or_false (list_any has_large ms));
  known = λ e. let k = h.known e in record {
    scale = k.scale ∙ sym (scale_more ms (Quarters n) ∙ or_none (first_scale ms));
    offset = k.offset ∙ sym (move_more ms (Quarters n) ∙ or_none (first_offset ms));
    scale_zero = k.scale_zero ∙ sym (any_more is_flat ms (Quarters n) ∙ or_false (list_any is_flat ms));
    repeated = k.repeated ∙ sym (repeated_turn ms n);
  };
}

pub shows_scale : (ms : List Modifier) (s : Modifiers) (v : ℤ) (first : Option ℤ) (low again : Bool) → Summarizes ms s → has_large (Scaled v) ≡ false → first ≡ option_or s.scale (Some v)
    → low ≡ (s.scale_zero || int_le v (pos 0)) → again ≡ (s.repeated || is_some s.scale)
    → Summarizes (ms ++ Scaled v ∷ []) (record s { scale = first; scale_zero = low; repeated = again })
shows_scale ms s v first low again h small first_is low_is again_is = record {
  turn = h.turn ∙ ap (λ k. k % 4) (sym (quarters_scale ms v));
  large = h.large ∙ sym (any_more has_large ms (Scaled v) ∙ (ap (λ b. list_any has_large ms || b) small ∙ or_false (list_any has_large ms)));
  known = λ e. let k = h.known e in record {
    scale = first_is ∙ (ap (λ o. option_or o (Some v)) k.scale ∙ sym (scale_more ms (Scaled v)));
    offset = k.offset ∙ sym (move_more ms (Scaled v) ∙ or_none (first_offset ms));
    scale_zero = low_is ∙ (ap (λ b. b || int_le v (pos 0)) k.scale_zero ∙ sym (any_more is_flat ms (Scaled v)));
    repeated = again_is ∙ (ap (λ b. b || is_some s.scale) k.repeated ∙ (ap (λ b. is_repeated ms || b) (ap is_some k.scale) ∙ sym (repeated_scale ms v)));
  };
}

abbrev both : ParsedMeasure × ParsedMeasure → Measure × Measure
both m = (measure_of m.0, measure_of m.1)

pub shows_move : (ms : List Modifier) (s : Modifiers) (x y : ParsedMeasure) (first : Option (ParsedMeasure × ParsedMeasure)) (again : Bool) → Summarizes ms s → has_large (Moved (measure_of x) (measure_of y)) ≡ false
    → first ≡ option_or s.offset (Some (x, y)) → again ≡ (s.repeated || is_some s.offset)
    → Summarizes (ms ++ Moved (measure_of x) (measure_of y) ∷ []) (record s { offset = first; repeated = again })
shows_move ms s x y first again h small first_is again_is = record {
  turn = h.turn ∙ ap (λ k. k % 4) (sym (quarters_move ms (measure_of x) (measure_of y)));
  large = h.large ∙ sym (any_more has_large ms (Moved (measure_of x) (measure_of y)) ∙ (ap (λ b. list_any has_large ms || b) small ∙ or_false (list_any has_large ms)));
  known = λ e. let k = h.known e in record {
    scale = k.scale ∙ sym (scale_more ms (Moved (measure_of x) (measure_of y)) ∙ or_none (first_scale ms));
    offset = ap (option_map both) first_is ∙ (map-or both s.offset (Some (x, y)) ∙ (ap (λ o. option_or o (Some (measure_of x, measure_of y))) k.offset ∙ sym (move_more ms (Moved (measure_of x) (measure_of y)))));
    scale_zero = k.scale_zero ∙ sym (any_more is_flat ms (Moved (measure_of x) (measure_of y)) ∙ or_false (list_any is_flat ms));
    repeated = again_is ∙ (ap (λ b. b || is_some s.offset) k.repeated ∙ (ap (λ b. is_repeated ms || b) (sym (is_some-map both s.offset) ∙ ap is_some k.offset) ∙ sym (repeated_move ms (measure_of x) (measure_of y))));
  };
}

large_quarters : (ms : List Modifier) (m : Modifier) → has_large m ≡ true → quarters (ms ++ m ∷ []) ≡ quarters ms
large_quarters ms (Quarters n) e = absurd (cc (e))
large_quarters ms (Scaled v) e = quarters_scale ms v
large_quarters ms (Moved x y) e = quarters_move ms x y

or_true : (b : Bool) → (b || true) ≡ true
or_true true = refl
or_true false = refl

pub shows_large : (ms : List Modifier) (s : Modifiers) (m : Modifier) → Summarizes ms s → has_large m ≡ true → Summarizes (ms ++ m ∷ []) (record s { too_large = true })
shows_large ms s m h e = record {
  turn = h.turn ∙ ap (λ k. k % 4) (sym (large_quarters ms m e));
  large = sym (any_more has_large ms m ∙ (ap (λ b. list_any has_large ms || b) e ∙ or_true (list_any has_large ms)));
  known = λ f. absurd (cc (f));
}

pub not_not : (b : Bool) → not (not b) ≡ b
not_not true = refl
not_not false = refl

pub turn_stands : (p : Part) (n : ℕ) (m : Modifier) → p ≡ Turn n → StandsFor p m → m ≡ Quarters n
turn_stands p n m e h = subst (λ q. StandsFor q m) e h

pub scale_stands : (p : Part) (v : ℤ) (m : Modifier) → p ≡ Scale v → StandsFor p m → (m ≡ Scaled v) × (has_large (Scaled v) ≡ false)
scale_stands p v m e h = let k = subst (λ q. StandsFor q m) e h in (k.0, subst (λ x. has_large x ≡ false) k.0 k.1)

pub move_stands : (p : Part) (x y : ParsedMeasure) (m : Modifier) → p ≡ Offset x y → StandsFor p m
    → (m ≡ Moved (measure_of x) (measure_of y)) × (has_large (Moved (measure_of x) (measure_of y)) ≡ false)
move_stands p x y m e h = let k = subst (λ q. StandsFor q m) e h in (k.0, subst (λ z. has_large z ≡ false) k.0 k.1)

pub large_stands : (p : Part) (m : Modifier) → p ≡ TooLarge → StandsFor p m → has_large m ≡ true
large_stands p m e h = subst (λ q. StandsFor q m) e h

-- the same fact at an equal modifier
pub shows_same : (ms : List Modifier) (m n : Modifier) (s : Modifiers) → m ≡ n → Summarizes (ms ++ n ∷ []) s → Summarizes (ms ++ m ∷ []) s
shows_same ms m n s e h = subst (λ x. Summarizes (ms ++ x ∷ []) s) (sym e) h
