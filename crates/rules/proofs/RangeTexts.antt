-- Texts of ranges, and how they are read.
use Rattle.std.proofs.Common.{arith, inl, inr, ◌≡◌, ◌≢◌, ℕ, zero, suc, ◌<◌, List, [], ◌∷◌, ◌++◌, Bool, true, false, Option, Some, None, refl, sym, ap, subst, ◌∙◌, length, true≢false}
use Rattle.std.specs.Prelude.{◌⊎◌, ◌==◌, ◌||◌, if◌then◌else◌, codes, option_map, option_and_then}
use Rattle.std.specs.List.{All, list_all, onto_first, slice_split}
use Rattle.std.specs.Str.{bytes_eq}
use Rattle.std.specs.Char.{is_ascii_digit}
use Rattle.std.proofs.lemmas.Grind.{common_steps}
use Rattle.std.proofs.lemmas.Slice.Eq.{bytes_eq-Decides}
use Rattle.std.proofs.lemmas.List.Elements.{All-nil, All-cons, All-head, All-weaker}
use Rattle.std.proofs.lemmas.List.Splits.{slice_split-cons_yes, slice_split-cons_no, slice_split_none, slice_split_at}
use Rattle.std.proofs.lemmas.List.Sums.{AllPass-from_list_all, list_all-from_AllPass}
use Rattle.rules.specs.Numbers.{number_of}
use Rattle.rules.specs.Specification.{IsDigits, IsJoined}
use Rattle.rules.proofs.OneValue.{same_head, same_tail}
use Rattle.rules.specs.Ranges.{BlankPage, FromEnd, FromStart, FromTo, IsPlace, IsRange, RangeEnd, Range, RangesAreRead, by_digits, is_blank_page, is_number, last_place_at, place_at, range_at, range_of, ranges_in, the_last}

-- ---- cases
by_test : {P : Type 0} (b : Bool) → (b ≡ true → P) → (b ≡ false → P) → P
by_test true t f = t refl
by_test false t f = f refl

by_option : {A P : Type 0} (o : Option A) → (o ≡ None → P) → ((x : A) → o ≡ Some x → P) → P
by_option None n s = n refl
by_option (Some x) n s = s x refl

no_some : {A : Type 0} (x : A) → None ≡ Some x → ⊥
no_some x e = absurd (cc (e))

some_same : {A : Type 0} (x y : A) → Some x ≡ Some y → x ≡ y
some_same x y e = cc

same_byte : (b c : ℕ) → (b == c) ≡ true → b ≡ c
same_byte b c e = grind (arith, common_steps)

apart : (b c : ℕ) → (b ≡ c → ⊥) → (b == c) ≡ false
apart b c h = by_test (b == c) (λ is. absurd (h (same_byte b c is))) (λ isnt. isnt)

unequal : (xs ys : List ℕ) → (xs ≡ ys → ⊥) → bytes_eq xs ys ≡ false
unequal xs ys h = by_test (bytes_eq xs ys) (λ is. absurd (h ((bytes_eq-Decides xs ys).0 is))) (λ isnt. isnt)

-- ---- bytes that a text lacks
abbrev Without : ℕ → List ℕ → Type 0
Without c text = All (λ b. (b == c) ≡ false) text

no_digit : (c b : ℕ) → is_ascii_digit c ≡ false → is_ascii_digit b ≡ true → (b == c) ≡ false
no_digit c b other is = apart b c (λ same. true≢false (sym is ∙ ap is_ascii_digit same ∙ other))

-- a byte that is not a digit, not an underscore and not a letter of the two words
record IsSign (c : ℕ) : Type 0 where
  digit : is_ascii_digit c ≡ false
  under : (95 == c) ≡ false
  l : (108 == c) ≡ false
  a : (97 == c) ≡ false
  s : (115 == c) ≡ false
  t : (116 == c) ≡ false

minus : IsSign 45
minus = record { digit = refl; under = refl; l = refl; a = refl; s = refl; t = refl }

comma : IsSign 44
comma = record { digit = refl; under = refl; l = refl; a = refl; s = refl; t = refl }

digits_without : (c : ℕ) (text : List ℕ) (k : ℕ) → IsSign c → IsDigits text k → Without c text
digits_without c text k sign is =
    All-weaker (λ b. is_ascii_digit b ≡ true) (λ b. (b == c) ≡ false) (λ b d. no_digit c b sign.digit d) text is.0

last_without : (c : ℕ) → IsSign c → Without c (codes "last")
last_without c sign =
    All-cons (λ b. (b == c) ≡ false) 108 (97 ∷ 115 ∷ 116 ∷ []) sign.l
    (All-cons (λ b. (b == c) ≡ false) 97 (115 ∷ 116 ∷ []) sign.a
    (All-cons (λ b. (b == c) ≡ false) 115 (116 ∷ []) sign.s
    (All-cons (λ b. (b == c) ≡ false) 116 [] sign.t (All-nil (λ b. (b == c) ≡ false)))))

place_without : (c : ℕ) (text : List ℕ) (p : RangeEnd) → IsSign c → IsPlace text p → Without c text
place_without c text (FromStart k) sign is = digits_without c text k sign is
place_without c text (FromEnd k) sign (inl (digits, e, is)) =
    subst (Without c) (sym e) (All-cons (λ b. (b == c) ≡ false) 95 digits sign.under (digits_without c digits k sign is))
place_without c text (FromEnd k) sign (inr (e, one)) = subst (Without c) (sym e) (last_without c sign)

-- ---- places are read
some_digit : (text : List ℕ) → text ≢ [] → list_all is_ascii_digit text ≡ true → is_number text ≡ true
some_digit [] some all = absurd (some refl)
some_digit (b ∷ text) some all = all

digits_read : (place : ℕ → RangeEnd) (text : List ℕ) (k : ℕ) → IsDigits text k → by_digits place text ≡ Some (place k)
digits_read place text k is =
    ap (λ t. if t then Some (place (number_of text)) else None) (some_digit text is.1 (list_all-from_AllPass is_ascii_digit text is.0))
    ∙ ap (λ n. Some (place n)) (sym is.2)

not_last : (b : ℕ) (rest : List ℕ) → (b ≡ 108 → ⊥) → bytes_eq (b ∷ rest) (codes "last") ≡ false
not_last b rest h = unequal (b ∷ rest) (codes "last") (λ e. h (same_head b 108 rest (97 ∷ 115 ∷ 116 ∷ []) e))

place_step : (b : ℕ) (rest : List ℕ) → bytes_eq (b ∷ rest) (codes "last") ≡ false
    → place_at (b ∷ rest) ≡ (if b == 95 then by_digits FromEnd rest else by_digits FromStart (b ∷ rest))
place_step b rest e = ap (λ t. if t then Some the_last else (if b == 95 then by_digits FromEnd rest else by_digits FromStart (b ∷ rest))) e

start_step : (b : ℕ) (rest : List ℕ) → (b == 95) ≡ false
    → (if b == 95 then by_digits FromEnd rest else by_digits FromStart (b ∷ rest)) ≡ by_digits FromStart (b ∷ rest)
start_step b rest e = ap (λ t. if t then by_digits FromEnd rest else by_digits FromStart (b ∷ rest)) e

first_digit : (b : ℕ) (rest : List ℕ) (k : ℕ) → IsDigits (b ∷ rest) k → is_ascii_digit b ≡ true
first_digit b rest k is = All-head (λ c. is_ascii_digit c ≡ true) b rest is.0

not_letter : (b c : ℕ) → is_ascii_digit b ≡ true → is_ascii_digit c ≡ false → b ≡ c → ⊥
not_letter b c is other same = true≢false (sym is ∙ ap is_ascii_digit same ∙ other)

start_read : (text : List ℕ) (k : ℕ) → IsDigits text k → place_at text ≡ Some (FromStart k)
start_read [] k is = absurd (is.1 refl)
start_read (b ∷ rest) k is =
    let digit : is_ascii_digit b ≡ true = first_digit b rest k is in
    place_step b rest (not_last b rest (not_letter b 108 digit refl))
    ∙ start_step b rest (no_digit 95 b refl digit)
    ∙ digits_read FromStart (b ∷ rest) k is

place_read : (text : List ℕ) (p : RangeEnd) → IsPlace text p → place_at text ≡ Some p
place_read text (FromStart k) is = start_read text k is
place_read text (FromEnd k) (inl (digits, e, is)) =
    ap place_at e ∙ place_step 95 digits (not_last 95 digits (λ h. absurd (omega (arith, h)))) ∙ digits_read FromEnd digits k is
place_read text (FromEnd k) (inr (e, one)) = ap place_at e ∙ ap (λ n. Some (FromEnd n)) (sym one)

last_read : (text : List ℕ) (p : RangeEnd) → IsPlace text p → last_place_at text ≡ Some p
last_read [] p is = absurd (no_some p (place_read [] p is))
last_read (b ∷ rest) p is = place_read (b ∷ rest) p is

-- ---- and what is read is a place
is_digits : (text : List ℕ) → is_number text ≡ true → IsDigits text (number_of text)
is_digits [] e = absurd (true≢false (sym e))
is_digits (b ∷ text) e = (AllPass-from_list_all is_ascii_digit (b ∷ text) e, (λ h. absurd (cc (h))), refl)

digits_found : (place : ℕ → RangeEnd) (text : List ℕ) (p : RangeEnd) → by_digits place text ≡ Some p
    → (p ≡ place (number_of text)) × IsDigits text (number_of text)
digits_found place text p e =
    by_test (is_number text)
    (λ is. (sym (some_same (place (number_of text)) p (sym (ap (λ t. if t then Some (place (number_of text)) else None) is) ∙ e)), is_digits text is))
    (λ isnt. absurd (no_some p (sym (ap (λ t. if t then Some (place (number_of text)) else None) isnt) ∙ e)))

place_found : (text : List ℕ) (p : RangeEnd) → place_at text ≡ Some p → IsPlace text p
place_found [] p e = absurd (no_some p e)
place_found (b ∷ rest) p e =
    by_test (bytes_eq (b ∷ rest) (codes "last"))
    (λ is.
    subst (IsPlace (b ∷ rest)) (some_same the_last p (sym (ap (λ t. if t then Some the_last else (if b == 95 then by_digits FromEnd rest else by_digits FromStart (b ∷ rest))) is) ∙ e))
    (inr ((bytes_eq-Decides (b ∷ rest) (codes "last")).0 is, refl)))
    (λ isnt. not_the_word (sym (place_step b rest isnt) ∙ e))
  where
    not_the_word : (if b == 95 then by_digits FromEnd rest else by_digits FromStart (b ∷ rest)) ≡ Some p → IsPlace (b ∷ rest) p
    not_the_word h =
        by_test (b == 95)
        (λ is.
        let found = digits_found FromEnd rest p (sym (ap (λ t. if t then by_digits FromEnd rest else by_digits FromStart (b ∷ rest)) is) ∙ h) in
        subst (IsPlace (b ∷ rest)) (sym found.0) (inl (rest, ap (λ c. c ∷ rest) (same_byte b 95 is), found.1)))
        (λ isnt.
        let found = digits_found FromStart (b ∷ rest) p (sym (start_step b rest isnt) ∙ h) in
        subst (IsPlace (b ∷ rest)) (sym found.0) found.1)

last_found : (text : List ℕ) (p : RangeEnd) → last_place_at text ≡ Some p → IsPlace text p ⊎ ((text ≡ []) × (p ≡ the_last))
last_found [] p e = inr (refl, sym (some_same the_last p e))
last_found (b ∷ rest) p e = inl (place_found (b ∷ rest) p e)

-- ---- where a text is split
abbrev pieces : ℕ → List ℕ → List (List ℕ)
pieces c text = slice_split (λ b. b == c) text

abbrev Split : ℕ → List ℕ → Type 0
Split c text =
    (pieces c text ≡ text ∷ [])
    ⊎ ((front rest : List ℕ) × (text ≡ front ++ c ∷ rest) × (pieces c text ≡ front ∷ pieces c rest) × (length rest < length text))

split : (c : ℕ) (text : List ℕ) → Split c text
split c [] = inl refl
split c (b ∷ text) =
    by_test (b == c)
    (λ is. inr ([], text, ap (λ x. x ∷ text) (same_byte b c is), slice_split-cons_yes (λ x. x == c) b text is, omega arith))
    (λ isnt. behind isnt (split c text))
  where
    behind : (b == c) ≡ false → Split c text → Split c (b ∷ text)
    behind isnt (inl e) = inl (slice_split-cons_no (λ x. x == c) b text isnt ∙ ap (onto_first b) e)
    behind isnt (inr (front, rest, e, f, less)) = inr (
      b ∷ front,
      rest,
      ap (λ x. b ∷ x) e,
      slice_split-cons_no (λ x. x == c) b text isnt ∙ ap (onto_first b) f,
      omega (arith, less),
    )

some_piece : (c : ℕ) (text : List ℕ) → (first : List ℕ) × (more : List (List ℕ)) × (pieces c text ≡ first ∷ more)
some_piece c text = of_split (split c text)
  where
    of_split : Split c text → (first : List ℕ) × (more : List (List ℕ)) × (pieces c text ≡ first ∷ more)
    of_split (inl e) = (text, [], e)
    of_split (inr (front, rest, e, f, less)) = (front, pieces c rest, f)

-- ---- ranges are read
abbrev range_or : Bool → List ℕ → Option Range
range_or t text = if t then Some BlankPage else range_of (pieces 45 text)

no_place_named_blank : (p : RangeEnd) → IsPlace (codes "blank") p → ⊥
no_place_named_blank (FromStart k) is = true≢false (sym (first_digit 98 (108 ∷ 97 ∷ 110 ∷ 107 ∷ []) k is))
no_place_named_blank (FromEnd k) (inl (digits, e, is)) = omega (arith, same_head 98 95 (108 ∷ 97 ∷ 110 ∷ 107 ∷ []) digits e)
no_place_named_blank (FromEnd k) (inr (e, one)) = omega (arith, same_head 98 108 (108 ∷ 97 ∷ 110 ∷ 107 ∷ []) (97 ∷ 115 ∷ 116 ∷ []) e)

no_lone_place : (p : RangeEnd) → IsPlace (95 ∷ []) p → ⊥
no_lone_place (FromStart k) is = true≢false (sym (first_digit 95 [] k is))
no_lone_place (FromEnd k) (inl (digits, e, is)) = is.1 (sym (same_tail 95 95 [] digits e))
no_lone_place (FromEnd k) (inr (e, one)) = omega (arith, same_head 95 108 [] (97 ∷ 115 ∷ 116 ∷ []) e)

either : (a b : Bool) → (a || b) ≡ true → (a ≡ true) ⊎ (b ≡ true)
either true b e = inl refl
either false b e = inr e

-- how a blank page is written
blank_text : (text : List ℕ) → is_blank_page text ≡ true → IsRange text BlankPage
blank_text text is = of_either (either (bytes_eq text (codes "blank")) (bytes_eq text (95 ∷ [])) is)
  where
    of_either : (bytes_eq text (codes "blank") ≡ true) ⊎ (bytes_eq text (95 ∷ []) ≡ true) → IsRange text BlankPage
    of_either (inl e) = inl ((bytes_eq-Decides text (codes "blank")).0 e)
    of_either (inr e) = inr ((bytes_eq-Decides text (95 ∷ [])).0 e)

not_blank : (text : List ℕ) → (IsRange text BlankPage → ⊥) → is_blank_page text ≡ false
not_blank text h = by_test (is_blank_page text) (λ is. absurd (h (blank_text text is))) (λ isnt. isnt)

place_no_blank : (text : List ℕ) (p : RangeEnd) → IsPlace text p → IsRange text BlankPage → ⊥
place_no_blank text p is (inl e) = no_place_named_blank p (subst (λ t. IsPlace t p) e is)
place_no_blank text p is (inr e) = no_lone_place p (subst (λ t. IsPlace t p) e is)

-- two texts with a minus sign between them are neither of the words, which have none
with_minus : (first second : List ℕ) → Without 45 (first ++ 45 ∷ second) → ⊥
with_minus [] second all = true≢false (All-head (λ b. (b == 45) ≡ false) 45 second all)
with_minus (b ∷ first) second all = with_minus first second (λ k d less. all (suc k) d (omega (arith, less)))

blank_without : Without 45 (codes "blank")
blank_without =
    All-cons (λ b. (b == 45) ≡ false) 98 (108 ∷ 97 ∷ 110 ∷ 107 ∷ []) refl
    (All-cons (λ b. (b == 45) ≡ false) 108 (97 ∷ 110 ∷ 107 ∷ []) refl
    (All-cons (λ b. (b == 45) ≡ false) 97 (110 ∷ 107 ∷ []) refl
    (All-cons (λ b. (b == 45) ≡ false) 110 (107 ∷ []) refl
    (All-cons (λ b. (b == 45) ≡ false) 107 [] refl (All-nil (λ b. (b == 45) ≡ false))))))

lone_without : Without 45 (95 ∷ [])
lone_without = All-cons (λ b. (b == 45) ≡ false) 95 [] refl (All-nil (λ b. (b == 45) ≡ false))

pair_no_blank : (text first second : List ℕ) → text ≡ first ++ 45 ∷ second → IsRange text BlankPage → ⊥
pair_no_blank text first second e (inl f) = with_minus first second (subst (Without 45) (sym f ∙ e) blank_without)
pair_no_blank text first second e (inr f) = with_minus first second (subst (Without 45) (sym f ∙ e) lone_without)

one_read : (text : List ℕ) (p : RangeEnd) → IsPlace text p → range_at text ≡ Some (FromTo p p)
one_read text p is =
    ap (λ t. range_or t text) (not_blank text (place_no_blank text p is))
    ∙ ap range_of (slice_split_none (λ b. b == 45) text (place_without 45 text p minus is))
    ∙ ap (option_map (λ q. FromTo q q)) (place_read text p is)

two_read : (text first second : List ℕ) (p q : RangeEnd) → text ≡ first ++ 45 ∷ second → IsPlace first p → Without 45 second
    → last_place_at second ≡ Some q → range_at text ≡ Some (FromTo p q)
two_read text first second p q e is clean last =
    ap (λ t. range_or t text) (not_blank text (pair_no_blank text first second e))
    ∙ ap (λ t. range_of (pieces 45 t)) e
    ∙ ap range_of (slice_split_at (λ b. b == 45) first 45 second (place_without 45 first p minus is) refl)
    ∙ ap (λ ps. range_of (first ∷ ps)) (slice_split_none (λ b. b == 45) second clean)
    ∙ ap (option_and_then (λ x. option_map (λ y. FromTo x y) (last_place_at second))) (place_read first p is)
    ∙ ap (option_map (λ y. FromTo p y)) last

range_read : (text : List ℕ) (r : Range) → IsRange text r → range_at text ≡ Some r
range_read text BlankPage (inl e) = ap range_at e
range_read text BlankPage (inr e) = ap range_at e
range_read text (FromTo p q) (inl (is, same)) = one_read text p is ∙ ap (λ x. Some (FromTo p x)) (sym same)
range_read text (FromTo p q) (inr (first, second, e, is, inl last)) =
    two_read text first second p q e is (place_without 45 second q minus last) (last_read second q last)
range_read text (FromTo p q) (inr (first, second, e, is, inr (none, same))) =
    two_read text first second p q e is (subst (Without 45) (sym none) (All-nil (λ b. (b == 45) ≡ false)))
    (ap last_place_at none ∙ ap Some (sym same))

-- ---- and what is read is a range
two_found : (text first second : List ℕ) (r : Range) → text ≡ first ++ 45 ∷ second → range_of (first ∷ second ∷ []) ≡ Some r → IsRange text r
two_found text first second r e h =
    by_option (place_at first)
    (λ none. absurd (no_some r (sym (ap (option_and_then (λ x. option_map (λ y. FromTo x y) (last_place_at second))) none) ∙ h)))
    (λ p some. of_first p some (sym (ap (option_and_then (λ x. option_map (λ y. FromTo x y) (last_place_at second))) some) ∙ h))
  where
    of_first : (p : RangeEnd) → place_at first ≡ Some p → option_map (λ y. FromTo p y) (last_place_at second) ≡ Some r → IsRange text r
    of_first p some g =
        by_option (last_place_at second)
        (λ none. absurd (no_some r (sym (ap (option_map (λ y. FromTo p y)) none) ∙ g)))
        (λ q last.
        subst (IsRange text) (some_same (FromTo p q) r (sym (ap (option_map (λ y. FromTo p y)) last) ∙ g))
        (inr (first, second, e, place_found first p some, last_found second q last)))

one_found : (text : List ℕ) (r : Range) → option_map (λ p. FromTo p p) (place_at text) ≡ Some r → IsRange text r
one_found text r h =
    by_option (place_at text)
    (λ none. absurd (no_some r (sym (ap (option_map (λ p. FromTo p p)) none) ∙ h)))
    (λ p some. subst (IsRange text) (some_same (FromTo p p) r (sym (ap (option_map (λ x. FromTo x x)) some) ∙ h)) (inl (place_found text p some, refl)))

pieces_found : (text : List ℕ) (r : Range) → range_of (pieces 45 text) ≡ Some r → IsRange text r
pieces_found text r h = of_split (split 45 text)
  where
    of_rest : (front rest : List ℕ) → text ≡ front ++ 45 ∷ rest → range_of (front ∷ pieces 45 rest) ≡ Some r → Split 45 rest → IsRange text r
    of_rest front rest e g (inl f) = two_found text front rest r e (sym (ap (λ ps. range_of (front ∷ ps)) f) ∙ g)
    of_rest front rest e g (inr (a, b, f, two, less)) =
        let (x, more, three) = some_piece 45 b in
        absurd (no_some r (sym (ap (λ ps. range_of (front ∷ ps)) (two ∙ ap (λ ps. a ∷ ps) three)) ∙ g))

    of_split : Split 45 text → IsRange text r
    of_split (inl e) = one_found text r (sym (ap range_of e) ∙ h)
    of_split (inr (front, rest, e, f, less)) = of_rest front rest e (sym (ap range_of f) ∙ h) (split 45 rest)

range_found : (text : List ℕ) (r : Range) → range_at text ≡ Some r → IsRange text r
range_found text r h =
    by_test (is_blank_page text)
    (λ is. subst (IsRange text) (some_same BlankPage r (sym (ap (λ t. range_or t text) is) ∙ h)) (blank_text text is))
    (λ isnt. pieces_found text r (sym (ap (λ t. range_or t text) isnt) ∙ h))

-- ---- rows of ranges
blank_word_without : Without 44 (codes "blank")
blank_word_without =
    All-cons (λ b. (b == 44) ≡ false) 98 (108 ∷ 97 ∷ 110 ∷ 107 ∷ []) refl
    (All-cons (λ b. (b == 44) ≡ false) 108 (97 ∷ 110 ∷ 107 ∷ []) refl
    (All-cons (λ b. (b == 44) ≡ false) 97 (110 ∷ 107 ∷ []) refl
    (All-cons (λ b. (b == 44) ≡ false) 110 (107 ∷ []) refl
    (All-cons (λ b. (b == 44) ≡ false) 107 [] refl (All-nil (λ b. (b == 44) ≡ false))))))

joined_without : (first second : List ℕ) → Without 44 first → Without 44 second → Without 44 (first ++ 45 ∷ second)
joined_without [] second a b = All-cons (λ x. (x == 44) ≡ false) 45 second refl b
joined_without (x ∷ first) second a b =
    All-cons (λ y. (y == 44) ≡ false) x (first ++ 45 ∷ second) (All-head (λ y. (y == 44) ≡ false) x first a)
    (joined_without first second (λ k d less. a (suc k) d (omega (arith, less))) b)

range_without : (text : List ℕ) (r : Range) → IsRange text r → Without 44 text
range_without text BlankPage (inl e) = subst (Without 44) (sym e) blank_word_without
range_without text BlankPage (inr e) =
    subst (Without 44) (sym e) (All-cons (λ b. (b == 44) ≡ false) 95 [] refl (All-nil (λ b. (b == 44) ≡ false)))
range_without text (FromTo p q) (inl (is, same)) = place_without 44 text p comma is
range_without text (FromTo p q) (inr (first, second, e, is, inl last)) =
    subst (Without 44) (sym e) (joined_without first second (place_without 44 first p comma is) (place_without 44 second q comma last))
range_without text (FromTo p q) (inr (first, second, e, is, inr (none, same))) =
    subst (Without 44) (sym e)
    (joined_without first second (place_without 44 first p comma is) (subst (Without 44) (sym none) (All-nil (λ b. (b == 44) ≡ false))))

abbrev with_more : List (List ℕ) → Option Range → Option (List Range)
with_more ps o = option_and_then (λ r. option_map (λ rs. r ∷ rs) (ranges_in ps)) o

all_read : (ranges : List Range) (text : List ℕ) → IsJoined 44 IsRange text ranges → ranges_in (pieces 44 text) ≡ Some ranges
all_read [] text h = absurd h
all_read (r ∷ []) text h =
    ap ranges_in (slice_split_none (λ b. b == 44) text (range_without text r h)) ∙ ap (with_more []) (range_read text r h)
all_read (r ∷ q ∷ rs) text (front, rest, e, h, more) =
    ap (λ t. ranges_in (pieces 44 t)) e
    ∙ ap ranges_in (slice_split_at (λ b. b == 44) front 44 rest (range_without front r h) refl)
    ∙ ap (with_more (pieces 44 rest)) (range_read front r h)
    ∙ ap (option_map (λ xs. r ∷ xs)) (all_read (q ∷ rs) rest more)

-- a list that is joined has at least one element
cons_joined : (front rest : List ℕ) (r : Range) (rs : List Range) → IsRange front r → IsJoined 44 IsRange rest rs
    → IsJoined 44 IsRange (front ++ 44 ∷ rest) (r ∷ rs)
cons_joined front rest r [] h more = absurd more
cons_joined front rest r (q ∷ rs) h more = (front, rest, refl, h, more)

all_found : (most : ℕ) (text : List ℕ) (ranges : List Range) → length text < most → ranges_in (pieces 44 text) ≡ Some ranges
    → IsJoined 44 IsRange text ranges
all_found zero text ranges less h = absurd (omega (arith, less))
all_found (suc most) text ranges less h = of_split (λ rs t small found. all_found most t rs small found) (split 44 text)
  where
    last_one : with_more [] (range_at text) ≡ Some ranges → IsJoined 44 IsRange text ranges
    last_one g =
        by_option (range_at text)
        (λ none. absurd (no_some ranges (sym (ap (with_more []) none) ∙ g)))
        (λ r some. subst (IsJoined 44 IsRange text) (some_same (r ∷ []) ranges (sym (ap (with_more []) some) ∙ g)) (range_found text r some))

    more_of : ((rs : List Range) → (t : List ℕ) → length t < most → ranges_in (pieces 44 t) ≡ Some rs → IsJoined 44 IsRange t rs)
        → (front rest : List ℕ) → text ≡ front ++ 44 ∷ rest → length rest < length text → (r : Range) → range_at front ≡ Some r
        → option_map (λ xs. r ∷ xs) (ranges_in (pieces 44 rest)) ≡ Some ranges → IsJoined 44 IsRange text ranges
    more_of again front rest e shorter r some g =
        by_option (ranges_in (pieces 44 rest))
        (λ none. absurd (no_some ranges (sym (ap (option_map (λ xs. r ∷ xs)) none) ∙ g)))
        (λ rs found.
        subst (IsJoined 44 IsRange text) (some_same (r ∷ rs) ranges (sym (ap (option_map (λ xs. r ∷ xs)) found) ∙ g))
        (subst (λ t. IsJoined 44 IsRange t (r ∷ rs)) (sym e)
        (cons_joined front rest r rs (range_found front r some) (again rs rest (omega (arith, less, shorter)) found))))

    of_split : ((rs : List Range) → (t : List ℕ) → length t < most → ranges_in (pieces 44 t) ≡ Some rs → IsJoined 44 IsRange t rs)
        → Split 44 text → IsJoined 44 IsRange text ranges
    of_split again (inl e) = last_one (sym (ap ranges_in e) ∙ h)
    of_split again (inr (front, rest, e, f, shorter)) =
        let g : with_more (pieces 44 rest) (range_at front) ≡ Some ranges = sym (ap ranges_in f) ∙ h in
        by_option (range_at front)
        (λ none. absurd (no_some ranges (sym (ap (with_more (pieces 44 rest)) none) ∙ g)))
        (λ r some.
        more_of again front rest e shorter r some
        (sym (ap (with_more (pieces 44 rest)) some) ∙ g))

pub ranges_are_read : RangesAreRead
ranges_are_read text ranges = (all_read ranges text, all_found (suc (length text)) text ranges (omega arith))
