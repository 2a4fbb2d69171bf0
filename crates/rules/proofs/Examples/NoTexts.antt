-- Texts that are no numbers or no specifications, and where the longest number ends.
use Rattle.std.proofs.Common.{inl, inr, rules, arith, ℕ, ◌<◌, ◌≤◌, List, [], ◌∷◌, ◌++◌, true, false, Bool, refl, sym, ap, subst, ◌∙◌, true≢false, append-nil, ◌≡◌, ◌≢◌, take, suc, zero}
use Rattle.std.specs.Prelude.{◌⊎◌, codes, ℤ, pos, ◌==◌, ◌||◌, Ok, Err}
use Rattle.std.specs.List.{AllPass}
use Rattle.std.specs.Char.{is_ascii_digit}
use Rattle.rules.specs.Numbers.{IsNumber, IsSign, IsFraction, IsLongestNumber, IsNumberRead, NumberTooLarge}
use Rattle.rules.specs.Papers.{LengthUnit, Pt, Cm, Mm, In, Width, Height}
use Rattle.rules.specs.Specification.{IsDigits, IsMeasure, IsModifier, AreModifiers, AreGroups, IsSpec, unit_name, minus_text, Measure, Modifier, Quarters, Scaled, Moved, WrittenItem, WrittenSpec}
use Rattle.rules.proofs.Examples.Texts.{two}
use Rattle.rules.proofs.OneValue.{head_passes, same_head, same_tail, same_digits}
use Rattle.rules.proofs.OneNumber.{one_number, ends_number}
use Rattle.rules.proofs.OneReading.{one_row, ends_item}
use Rattle.rules.proofs.OneSpec.{groups_front, no_modulo_apart}

-- a dot alone is no number
dot_parts : (negative : Bool) (sign whole fraction decimals : List ℕ) → 46 ∷ [] ≡ sign ++ whole ++ fraction → IsSign sign negative → AllPass is_ascii_digit whole → IsFraction fraction decimals → whole ++ decimals ≢ [] → ⊥
dot_parts negative [] [] [] decimals e s w f n = n f
dot_parts negative [] [] (b ∷ rest) decimals e s w f n = n (sym f.1 ∙ same_tail b 46 rest [] (sym e))
dot_parts negative [] (c ∷ cs) fraction decimals e s w f n = true≢false (sym (head_passes c cs w) ∙ ap is_ascii_digit (sym (same_head 46 c [] (cs ++ fraction) e)))
dot_parts true (b ∷ bs) whole fraction decimals e s w f n = absurd (omega (arith, same_head 46 b [] _ e, s.1))
dot_parts false (b ∷ bs) whole fraction decimals e s w f n = absurd (omega (arith, same_head 46 b [] _ e, s.1))

lone_dot : (v : ℤ) → IsNumber (codes ".") v → ⊥
lone_dot v (negative, sign, whole, fraction, decimals, e, s, w, f, d, n, value) = dot_parts negative sign whole fraction decimals e s w f n

-- nor is a sign alone, or another byte that is neither a digit nor a dot
other_byte_parts : (a : ℕ) (negative : Bool) (sign whole fraction decimals : List ℕ) → a ≢ 46 → is_ascii_digit a ≡ false → a ∷ [] ≡ sign ++ whole ++ fraction → IsSign sign negative → AllPass is_ascii_digit whole → IsFraction fraction decimals → whole ++ decimals ≢ [] → ⊥
other_byte_parts a negative sign [] [] decimals no_dot no_digit e s w f n = n f
other_byte_parts a negative [] [] (b ∷ rest) decimals no_dot no_digit e s w f n = no_dot (same_head a b [] rest e ∙ f.0)
other_byte_parts a negative [] (c ∷ cs) fraction decimals no_dot no_digit e s w f n = true≢false (sym (head_passes c cs w) ∙ (ap is_ascii_digit (sym (same_head a c [] (cs ++ fraction) e)) ∙ no_digit))
other_byte_parts a negative (x ∷ []) [] (b ∷ rest) decimals no_dot no_digit e s w f n = cc (e)
other_byte_parts a negative (x ∷ y ∷ ys) whole fraction decimals no_dot no_digit e s w f n = cc (s.0)
other_byte_parts a negative (x ∷ []) (c ∷ cs) fraction decimals no_dot no_digit e s w f n = cc (e)

lone_plus : (v : ℤ) → IsNumber (codes "+") v → ⊥
lone_plus v (negative, sign, whole, fraction, decimals, e, s, w, f, d, n, value) = other_byte_parts 43 negative sign whole fraction decimals (λ p. omega (arith, p)) refl e s w f n

lone_minus : (v : ℤ) → IsNumber (codes "-") v → ⊥
lone_minus v (negative, sign, whole, fraction, decimals, e, s, w, f, d, n, value) = other_byte_parts 45 negative sign whole fraction decimals (λ p. omega (arith, p)) refl e s w f n

lone_comma : (v : ℤ) → IsNumber (codes ",") v → ⊥
lone_comma v (negative, sign, whole, fraction, decimals, e, s, w, f, d, n, value) = other_byte_parts 44 negative sign whole fraction decimals (λ p. omega (arith, p)) refl e s w f n

-- `21cm`: a number ends where a unit begins
twenty_one : IsNumber (codes "21") (pos 21_000_000_000)
twenty_one = (false, [], codes "21", [], [], refl, refl, search rules, refl, search rules, (λ e. cc), refl)

past_two_digits : (k : ℕ) (v : ℤ) → 2 < k → k ≤ 4 → IsNumber (take k (codes "21cm")) v → ⊥
past_two_digits zero v l w is = omega (arith, l)
past_two_digits (suc zero) v l w is = omega (arith, l)
past_two_digits (suc (suc zero)) v l w is = omega (arith, l)
past_two_digits (suc (suc (suc zero))) v l w is = cc ((one_number (codes "21c") (codes "21") (codes "m") (codes "cm") v (pos 21_000_000_000) is twenty_one refl refl refl).0)
past_two_digits (suc (suc (suc (suc zero)))) v l w is = cc ((one_number (codes "21cm") (codes "21") [] (codes "cm") v (pos 21_000_000_000) is twenty_one refl refl refl).0)
past_two_digits (suc (suc (suc (suc (suc k))))) v l w is = omega (arith, w)

number_before_unit : IsNumberRead (codes "21cm") (Ok (pos 21_000_000_000, 2))
number_before_unit = (record { within = search rules; number = twenty_one; longest = past_two_digits }, refl)

-- `1e5`: a number has no exponent, and ends before the letter
one : IsNumber (codes "1") (pos 1_000_000_000)
one = (false, [], codes "1", [], [], refl, refl, search rules, refl, search rules, (λ e. cc), refl)

past_one_digit : (k : ℕ) (v : ℤ) → 1 < k → k ≤ 3 → IsNumber (take k (codes "1e5")) v → ⊥
past_one_digit zero v l w is = omega (arith, l)
past_one_digit (suc zero) v l w is = omega (arith, l)
past_one_digit (suc (suc zero)) v l w is = cc ((one_number (codes "1e") (codes "1") [] (codes "e") v (pos 1_000_000_000) is one refl refl refl).0)
past_one_digit (suc (suc (suc zero))) v l w is = cc ((one_number (codes "1e5") (codes "1") [] (codes "e5") v (pos 1_000_000_000) is one refl refl refl).0)
past_one_digit (suc (suc (suc (suc k)))) v l w is = omega (arith, w)

number_before_exponent : IsNumberRead (codes "1e5") (Ok (pos 1_000_000_000, 1))
number_before_exponent = (record { within = search rules; number = one; longest = past_one_digit }, refl)

-- `5.,`: a dot without decimals belongs to the number, and a comma doesn't
five : IsNumber (codes "5.") (pos 5_000_000_000)
five = (false, [], codes "5", codes ".", [], refl, refl, search rules, (refl, refl), search rules, (λ e. cc), refl)

past_dot : (k : ℕ) (v : ℤ) → 2 < k → k ≤ 3 → IsNumber (take k (codes "5.,")) v → ⊥
past_dot zero v l w is = omega (arith, l)
past_dot (suc zero) v l w is = omega (arith, l)
past_dot (suc (suc zero)) v l w is = omega (arith, l)
past_dot (suc (suc (suc zero))) v l w is = cc ((one_number (codes "5.,") (codes "5.") [] (codes ",") v (pos 5_000_000_000) is five refl refl refl).0)
past_dot (suc (suc (suc (suc k)))) v l w is = omega (arith, w)

number_with_dot : IsNumberRead (codes "5.,") (Ok (pos 5_000_000_000, 2))
number_with_dot = (record { within = search rules; number = five; longest = past_dot }, refl)

-- `21`: the longest number counts, and that is not 2
first_digit_alone : (v : ℤ) → IsLongestNumber (codes "21") 1 v → ⊥
first_digit_alone v h = h.longest 2 (pos 21_000_000_000) (search rules) (search rules) twenty_one

-- `100000`: too large, and six bytes long
hundred_thousand : IsNumberRead (codes "100000") (Err (NumberTooLarge 6))
hundred_thousand = (
  pos 100_000_000_000_000,
  record {
    within = search rules;
    number = (false, [], codes "100000", [], [], refl, refl, search rules, refl, search rules, (λ e. cc), refl);
    longest = λ k v more within is. omega (arith, more, within);
  },
  refl,
)

-- `2CM` and `2m` are not lengths: units have no capitals, and metres are no unit
unit_ends : (u : LengthUnit) → ends_number (unit_name u) ≡ true
unit_ends Pt = refl
unit_ends Cm = refl
unit_ends Mm = refl
unit_ends In = refl
unit_ends Width = refl
unit_ends Height = refl

-- the 2 of a length is followed by a unit, or by nothing
unit_behind : (unit : List ℕ) (m : Measure) → ends_number unit ≡ true → IsMeasure (codes "2" ++ unit) m → (unit ≡ unit_name m.unit) ⊎ (unit ≡ [])
unit_behind unit m ends (number, name, e, n, inl u) =
    let same = one_number number (codes "2") name unit m.number (pos 2_000_000_000) n two (subst (λ z. ends_number z ≡ true) (sym u) (unit_ends m.unit)) ends (sym e) in
    inl (sym same.2 ∙ u)
unit_behind unit m ends (number, name, e, n, inr (u, points)) =
    let same = one_number number (codes "2") name unit m.number (pos 2_000_000_000) n two (subst (λ z. ends_number z ≡ true) (sym u) refl) ends (sym e) in
    inr (sym same.2 ∙ u)

not_capital : (u : LengthUnit) → codes "CM" ≡ unit_name u → ⊥
not_capital Pt e = omega (arith, same_head 67 112 _ _ e)
not_capital Cm e = omega (arith, same_head 67 99 _ _ e)
not_capital Mm e = omega (arith, same_head 67 109 _ _ e)
not_capital In e = omega (arith, same_head 67 105 _ _ e)
not_capital Width e = omega (arith, same_head 67 119 _ _ e)
not_capital Height e = omega (arith, same_head 67 104 _ _ e)

not_metres : (u : LengthUnit) → codes "m" ≡ unit_name u → ⊥
not_metres Pt e = omega (arith, same_head 109 112 _ _ e)
not_metres Cm e = omega (arith, same_head 109 99 _ _ e)
not_metres Mm e = cc (same_tail 109 109 [] (codes "m") e)
not_metres In e = omega (arith, same_head 109 105 _ _ e)
not_metres Width e = omega (arith, same_head 109 119 _ _ e)
not_metres Height e = omega (arith, same_head 109 104 _ _ e)

some_left : (x : ℕ) (xs : List ℕ) → x ∷ xs ≡ [] → ⊥
some_left x xs e = cc

capital_unit : (m : Measure) → IsMeasure (codes "2CM") m → ⊥
capital_unit m h = elim (unit_behind (codes "CM") m refl h) [ inl e ↦ not_capital m.unit e | inr e ↦ some_left 67 (codes "M") e ]

metres : (m : Measure) → IsMeasure (codes "2m") m → ⊥
metres m h = elim (unit_behind (codes "m") m refl h) [ inl e ↦ not_metres m.unit e | inr e ↦ some_left 109 [] e ]

-- `H`, one of the flips of pstops(1), is not a modifier
flip_left_to_right : (m : Modifier) → IsModifier (codes "H") m → ⊥
flip_left_to_right (Quarters n) (inl (k, inl e)) = omega (arith, same_head 72 76 _ _ e)
flip_left_to_right (Quarters n) (inl (k, inr e)) = omega (arith, same_head 72 108 _ _ e)
flip_left_to_right (Quarters n) (inr (inl (k, inl e))) = omega (arith, same_head 72 85 _ _ e)
flip_left_to_right (Quarters n) (inr (inl (k, inr e))) = omega (arith, same_head 72 117 _ _ e)
flip_left_to_right (Quarters n) (inr (inr (k, inl e))) = omega (arith, same_head 72 82 _ _ e)
flip_left_to_right (Quarters n) (inr (inr (k, inr e))) = omega (arith, same_head 72 114 _ _ e)
flip_left_to_right (Scaled v) (number, e, n) = omega (arith, same_head 72 64 _ _ e)
flip_left_to_right (Moved x y) (first, second, e, f, s) = omega (arith, same_head 72 40 _ _ e)

-- an item with a page number begins with a digit or a minus
begins_item : (x : ℕ) (text digits more : List ℕ) (n : ℕ) (b : Bool) → IsDigits digits n → x ∷ text ≡ minus_text b ++ (digits ++ more) → (is_ascii_digit x || (x == 45)) ≡ true
begins_item x text digits more n true d e = rw (same_head x 45 _ _ e) refl
begins_item x text [] more n false d e = absurd (d.1 refl)
begins_item x text (y ∷ digits) more n false d e = rw (same_head x y _ _ e, head_passes y digits d.0) refl

empty_no_item : (digits more : List ℕ) (n : ℕ) (b : Bool) → IsDigits digits n → [] ≡ minus_text b ++ (digits ++ more) → ⊥
empty_no_item digits more n true d e = cc
empty_no_item [] more n false d e = d.1 refl
empty_no_item (y ∷ digits) more n false d e = cc

empty_no_groups : (gs : List (List WrittenItem)) → AreGroups [] gs → ⊥
empty_no_groups gs (inl h) = let a = groups_front [] gs h in empty_no_item a.digits (a.rest ++ a.tail) a.page a.from_end a.number a.parts
empty_no_groups gs (inr (i, e, (rest, p, z, some, g))) = some refl

-- the empty text is no specification
nothing : (spec : WrittenSpec) → IsSpec [] spec → ⊥
nothing spec (inl (m, h)) = empty_no_groups spec.groups h
nothing spec (inr ([], rest, e, d, h)) = cc
nothing spec (inr (x ∷ digits, rest, e, d, h)) = cc

-- nor is `2:`
modulo_alone : (spec : WrittenSpec) → IsSpec (codes "2:") spec → ⊥
modulo_alone spec (inl (m, h)) = no_modulo_apart (codes "2:") (codes "2") [] 2 spec.groups h (search rules, (λ e. cc), refl) refl
modulo_alone spec (inr (digits, rest, e, d, h)) =
    let s = same_digits (codes "2") digits (58 ∷ []) (58 ∷ rest) (search rules) d.0 refl refl e in
    empty_no_groups spec.groups (subst (λ z. AreGroups z spec.groups) (sym (same_tail 58 58 [] rest s.1)) h)

-- nor is `L,0`: one item alone may leave its page number out
turn_to_the_left : AreModifiers (codes "L") (Quarters 1 ∷ [])
turn_to_the_left = (codes "L", [], refl, inl (refl, inl refl), refl)

row_stops : (t r u : List ℕ) (ms ks : List Modifier) → AreModifiers t ms → AreModifiers u ks → ends_item r ≡ true → t ++ r ≡ u → r ≡ []
row_stops t r u ms ks g h e f = (one_row t u r [] ms ks g h e refl (f ∙ sym (append-nil u))).1

left_no_bare : (b : ℕ) (more rest : List ℕ) (from_end : Bool) (ms : List Modifier) → ends_item (b ∷ more) ≡ true → 76 ∷ b ∷ more ≡ minus_text from_end ++ rest → AreModifiers rest ms → ⊥
left_no_bare b more rest true ms ends e g = absurd (omega (arith, same_head 76 45 (b ∷ more) rest e))
left_no_bare b more rest false ms ends e g = some_left b more (row_stops (codes "L") (b ∷ more) rest (Quarters 1 ∷ []) ms turn_to_the_left g ends e)

left_out_before : (b : ℕ) (more : List ℕ) → ends_item (b ∷ more) ≡ true → (spec : WrittenSpec) → IsSpec (76 ∷ b ∷ more) spec → ⊥
left_out_before b more ends spec (inl (m, inl h)) = let a = groups_front (76 ∷ b ∷ more) spec.groups h in true≢false (sym (begins_item 76 (b ∷ more) a.digits (a.rest ++ a.tail) a.page a.from_end a.number a.parts))
left_out_before b more ends spec (inl (m, inr (i, e, (rest, p, z, some, g)))) = left_no_bare b more rest i.from_end i.modifiers ends p g
left_out_before b more ends spec (inr ([], rest, e, d, h)) = d.1 refl
left_out_before b more ends spec (inr (x ∷ digits, rest, e, d, h)) = true≢false (sym (head_passes x digits d.0) ∙ ap is_ascii_digit (sym (same_head 76 x _ _ e)))

left_out_before_comma : (spec : WrittenSpec) → IsSpec (codes "L,0") spec → ⊥
left_out_before_comma spec h = left_out_before 44 (codes "0") refl spec h

-- nor is `L+0`
left_out_before_plus : (spec : WrittenSpec) → IsSpec (codes "L+0") spec → ⊥
left_out_before_plus spec h = left_out_before 43 (codes "0") refl spec h
