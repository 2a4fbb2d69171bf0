-- A printed number, followed by something that ends a word, is a token.
use Rattle.std.specs.Prelude.{ℤ, decimal, nat_abs, nat_lt, if◌then◌else◌}
use Rattle.std.proofs.Common.{◌≡◌, ℕ, zero, suc, ◌+◌, ◌/◌, ◌%◌, ◌^◌, lt→ltb, T, ◌<◌, ◌≤◌, refl, ap, ◌∙◌, sym, subst, Bool, true, false, ◌&&◌, ◌==◌, List, [], ◌∷◌, ◌++◌, append_assoc, append-nil, reverse, length, drop, arith, eq-or-lt_of_le, ⊎_elim}
use Rattle.std.specs.Fmt.{digits, digits_onto, digit_glyph}
use Rattle.std.specs.Char.{is_ascii_digit}
use Rattle.rules.specs.Numbers.{printed, fraction_text, is_negative, without_last_zeros, decimals_of, points_text, scale_text, rounded}
use Rattle.rules.proofs.Digits.{digit_range}
use Rattle.std.proofs.lemmas.List.{reverse-append}
use Rattle.pictures.proofs.Scanned.{scan_behind}
use Rattle.rules.specs.Bytes.{dot, minus_sign}
use Rattle.pictures.specs.Objects.{Token, Number, Name, Unknown}
use Rattle.pictures.specs.Scanner.{Reading, Between, InWord, after_tokens, class_of, Regular, scan_from, word, is_number_text, is_sign, is_whole_number, has_radix, begins_exponent, ends_comment, digits_from, decimals_from, begun, in_word}

-- a property of each digit holds for all
at_least : (P : ℕ → Type 0) (n d : ℕ) → n ≤ d → P n → (n + 1 ≤ d → P d) → P d
at_least P n d l p f = ⊎_elim (λ e. subst P e p) (λ lt. f (omega (arith, lt))) (eq-or-lt_of_le l)

ten : (P : ℕ → Type 0) → P 48 → P 49 → P 50 → P 51 → P 52 → P 53 → P 54 → P 55 → P 56 → P 57 → (d : ℕ) → 48 ≤ d → d < 58 → P d
ten P p0 p1 p2 p3 p4 p5 p6 p7 p8 p9 d l u =
    at_least P 48 d l p0 (λ l0. at_least P 49 d l0 p1 (λ l1. at_least P 50 d l1 p2 (λ l2. at_least P 51 d l2 p3 (λ l3. at_least P 52 d l3 p4
    (λ l4. at_least P 53 d l4 p5 (λ l5. at_least P 54 d l5 p6 (λ l6. at_least P 55 d l6 p7 (λ l7. at_least P 56 d l7 p8 (λ l8. at_least P 57 d l8 p9
    (λ l9. absurd (omega (arith, l9, u))))))))))))

-- what the reader asks of a digit
abbrev pub IsPlainDigit : ℕ → Type 0
IsPlainDigit d =
    (class_of d ≡ Regular) × (is_ascii_digit d ≡ true) × ((d == dot) ≡ false) × (is_sign d ≡ false) × (ends_comment d ≡ false)
    × (begins_exponent d ≡ false)

plain_digit : (d : ℕ) → 48 ≤ d → d < 58 → IsPlainDigit d
plain_digit =
    ten IsPlainDigit (refl, refl, refl, refl, refl, refl) (refl, refl, refl, refl, refl, refl) (refl, refl, refl, refl, refl, refl) (refl, refl, refl, refl, refl, refl) (refl, refl, refl, refl, refl, refl)
    (refl, refl, refl, refl, refl, refl) (refl, refl, refl, refl, refl, refl) (refl, refl, refl, refl, refl, refl) (refl, refl, refl, refl, refl, refl) (refl, refl, refl, refl, refl, refl)

digit : (d : ℕ) → is_ascii_digit d ≡ true → IsPlainDigit d
digit d e = let r = digit_range d e in plain_digit d r.0 r.1

-- bytes that stay in a word
abbrev pub AllRegular : List ℕ → Type 0
AllRegular [] = Unit {0}
AllRegular (b ∷ bs) = (class_of b ≡ Regular) × AllRegular bs

abbrev pub AllDigits : List ℕ → Type 0
AllDigits [] = Unit {0}
AllDigits (d ∷ ds) = IsPlainDigit d × AllDigits ds

regular_append : (a b : List ℕ) → AllRegular a → AllRegular b → AllRegular (a ++ b)
regular_append [] b h k = k
regular_append (x ∷ a) b h k = (h.0, regular_append a b h.1 k)

regular_digits : (ds : List ℕ) → AllDigits ds → AllRegular ds
regular_digits [] h = tt
regular_digits (d ∷ ds) h = (h.0.0, regular_digits ds h.1)

regular_fraction : (ds : List ℕ) → AllDigits ds → AllRegular (fraction_text ds)
regular_fraction [] h = tt
regular_fraction (d ∷ ds) h = (refl, (h.0.0, regular_digits ds h.1))

decimals_only : (some : Bool) (ds : List ℕ) → AllDigits ds → (length ds ≡ 0 → some ≡ true) → decimals_from some ds ≡ true
decimals_only some [] h e = e refl
decimals_only some (d ∷ ds) h e =
    ap (λ b. if b then some && is_whole_number ds else is_ascii_digit d && decimals_from true ds) h.0.5
    ∙ ap (λ b. b && decimals_from true ds) h.0.1
    ∙ decimals_only true ds h.1 (λ _. refl)

decimals_then : (ds : List ℕ) → AllDigits ds → digits_from true (fraction_text ds) ≡ true
decimals_then [] h = refl
decimals_then (d ∷ ds) h = decimals_only true (d ∷ ds) h (λ _. refl)

whole_then : (some : Bool) (whole ds : List ℕ) → AllDigits whole → AllDigits ds → (length whole ≡ 0 → some ≡ true) → digits_from some (whole ++ fraction_text ds) ≡ true
whole_then some [] ds h k e = ap (λ s. digits_from s (fraction_text ds)) (e refl) ∙ decimals_then ds k
whole_then some (w ∷ whole) ds h k e =
    ap (λ b. if b then decimals_from some (whole ++ fraction_text ds) else (if begins_exponent w then some && is_whole_number (whole ++ fraction_text ds) else is_ascii_digit w && digits_from true (whole ++ fraction_text ds))) h.0.2
    ∙ ap (λ b. if b then some && is_whole_number (whole ++ fraction_text ds) else is_ascii_digit w && digits_from true (whole ++ fraction_text ds)) h.0.5
    ∙ ap (λ b. b && digits_from true (whole ++ fraction_text ds)) h.0.1
    ∙ whole_then true whole ds h.1 k (λ _. refl)

-- Only digits, a dot and a minus are printed, however large the number is.

mod_ten : (n : ℕ) → n % 10 < 10
mod_ten n = omega arith

glyph : (n : ℕ) → IsPlainDigit (digit_glyph false (n % 10))
glyph n = turn (nat_lt (n % 10) 10) refl
  where
    turn : (b : Bool) → b ≡ nat_lt (n % 10) 10 → IsPlainDigit (if b then 48 + n % 10 else (if false then 55 + n % 10 else 87 + n % 10))
    turn true e = plain_digit (48 + n % 10) (omega arith) (omega (arith, mod_ten n))
    turn false e = absurd (subst T (sym e) (lt→ltb (n % 10) 10 (mod_ten n)))

onto_digits : (k n : ℕ) (acc : List ℕ) → AllDigits acc → AllDigits (digits_onto k 10 false n acc)
onto_digits zero n acc h = h
onto_digits (suc k) n acc h = turn (n / 10 == 0) (glyph n, h) (λ f. onto_digits k (n / 10) (digit_glyph false (n % 10) ∷ acc) f)
  where
    turn : (b : Bool) → AllDigits (digit_glyph false (n % 10) ∷ acc) → (AllDigits (digit_glyph false (n % 10) ∷ acc) → AllDigits (digits_onto k 10 false (n / 10) (digit_glyph false (n % 10) ∷ acc)))
        → AllDigits (if b then digit_glyph false (n % 10) ∷ acc else digits_onto k 10 false (n / 10) (digit_glyph false (n % 10) ∷ acc))
    turn true f more = f
    turn false f more = more f

some_onto : (k n : ℕ) (acc : List ℕ) → 0 < length acc → 0 < length (digits_onto k 10 false n acc)
some_onto zero n acc h = h
some_onto (suc k) n acc h = turn (n / 10 == 0) (some_onto k (n / 10) (digit_glyph false (n % 10) ∷ acc) (longer h))
  where
    longer : 0 < length acc → 0 < length (digit_glyph false (n % 10) ∷ acc)
    longer h = omega (arith, h)

    turn : (b : Bool) → 0 < length (digits_onto k 10 false (n / 10) (digit_glyph false (n % 10) ∷ acc))
        → 0 < length (if b then digit_glyph false (n % 10) ∷ acc else digits_onto k 10 false (n / 10) (digit_glyph false (n % 10) ∷ acc))
    turn true f = longer h
    turn false f = f

some_first : (k n : ℕ) (acc : List ℕ) → 0 < length (digits_onto (suc k) 10 false n acc)
some_first k n acc = turn (n / 10 == 0) (some_onto k (n / 10) (digit_glyph false (n % 10) ∷ acc) one)
  where
    one : 0 < length (digit_glyph false (n % 10) ∷ acc)
    one = omega arith

    turn : (b : Bool) → 0 < length (digits_onto k 10 false (n / 10) (digit_glyph false (n % 10) ∷ acc))
        → 0 < length (if b then digit_glyph false (n % 10) ∷ acc else digits_onto k 10 false (n / 10) (digit_glyph false (n % 10) ∷ acc))
    turn true f = one
    turn false f = f

pub decimal_digits : (n : ℕ) → AllDigits (decimal n)
unfolding digits
decimal_digits n = onto_digits 64 n [] tt

decimal_some : (n : ℕ) → 0 < length (decimal n)
unfolding digits
decimal_some n = some_first 63 n []

digits_drop : (k : ℕ) (ds : List ℕ) → AllDigits ds → AllDigits (drop k ds)
digits_drop zero [] h = tt
digits_drop zero (d ∷ ds) h = h
digits_drop (suc k) [] h = tt
digits_drop (suc k) (d ∷ ds) h = digits_drop k ds h.1

digits_stripped : (ds : List ℕ) → AllDigits ds → AllDigits (without_last_zeros ds)
digits_stripped [] h = tt
digits_stripped (d ∷ ds) h = turn ((length (without_last_zeros ds) == 0) && (d == 48)) (digits_stripped ds h.1)
  where
    turn : (b : Bool) → AllDigits (without_last_zeros ds) → AllDigits (if b then [] else d ∷ without_last_zeros ds)
    turn true k = tt
    turn false k = (h.0, k)

-- Words: bytes that stay in a word, and are a number.
pub record IsWord (text : List ℕ) : Type 0 where
  pub first : ℕ
  pub others : List ℕ
  pub parts : text ≡ first ∷ others
  pub regular : AllRegular (first ∷ others)
  pub is_word : is_number_text (first ∷ others) ≡ true

word_of : (negative : Bool) (whole ds : List ℕ) → AllDigits whole → AllDigits ds → 0 < length whole → IsWord ((if negative then minus_sign ∷ [] else []) ++ whole ++ fraction_text ds)
word_of true whole ds h k l = record {
  first = minus_sign;
  others = whole ++ fraction_text ds;
  parts = refl;
  regular = (refl, regular_append whole (fraction_text ds) (regular_digits whole h) (regular_fraction ds k));
  is_word = whole_then false whole ds h k (λ e. absurd (omega (arith, l, e)));
}
word_of false [] ds h k l = absurd (omega (arith, l))
word_of false (w ∷ whole) ds h k l = record {
  first = w;
  others = whole ++ fraction_text ds;
  parts = refl;
  regular = (h.0.0, regular_append whole (fraction_text ds) (regular_digits whole h.1) (regular_fraction ds k));
  is_word = ap (λ b. if b then digits_from false (whole ++ fraction_text ds) else digits_from false (w ∷ (whole ++ fraction_text ds))) h.0.3
      ∙ whole_then false (w ∷ whole) ds h k (λ e. absurd (omega (arith, l, e)));
}

pub printed_word : (e : ℕ) (v : ℤ) → IsWord (printed e v)
printed_word e v =
    word_of (is_negative v) (decimal (nat_abs v / 10 ^ e)) (decimals_of e (nat_abs v % 10 ^ e)) (decimal_digits (nat_abs v / 10 ^ e))
    (digits_stripped (drop 1 (decimal (10 ^ e + nat_abs v % 10 ^ e))) (digits_drop 1 (decimal (10 ^ e + nat_abs v % 10 ^ e)) (decimal_digits (10 ^ e + nat_abs v % 10 ^ e))))
    (decimal_some (nat_abs v / 10 ^ e))

pub points_word : (g : ℤ) → IsWord (points_text g)
points_word g = printed_word 5 (rounded g 1_270_000)

pub scale_word : (v : ℤ) → IsWord (scale_text v)
scale_word v = printed_word 9 v

-- What is read.

abbrev pub Reads : Reading → List ℕ → List Token → Reading → Type 0
Reads r text ts q = scan_from r text ≡ (ts, q)

pub reads_join : (r q p : Reading) (a b : List ℕ) (ts us : List Token) → Reads r a ts q → Reads q b us p → Reads r (a ++ b) (ts ++ us) p
reads_join r q p a b ts us e f = scan_behind r a b ∙ ap (λ x. after_tokens x.0 (scan_from x.1 b)) e ∙ ap (after_tokens ts) f

abbrev pub onto : List ℕ → List ℕ → List ℕ
onto [] acc = acc
onto (b ∷ bs) acc = onto bs (b ∷ acc)

reverse_onto : (bs acc : List ℕ) → reverse (onto bs acc) ≡ reverse acc ++ bs
reverse_onto [] acc = sym (append-nil (reverse acc))
reverse_onto (b ∷ bs) acc = reverse_onto bs (b ∷ acc) ∙ ap (λ l. l ++ bs) (reverse-append (b ∷ []) acc) ∙ append_assoc (reverse acc) (b ∷ []) bs

reads_regular : (bs acc : List ℕ) → AllRegular bs → Reads (InWord acc) bs [] (InWord (onto bs acc))
reads_regular [] acc h = refl
reads_regular (b ∷ bs) acc h =
    ap (λ c. after_tokens (in_word c acc b).0 (scan_from (in_word c acc b).1 bs)) h.0 ∙ ap (after_tokens []) (reads_regular bs (b ∷ acc) h.1)

pub reads_word : (text : List ℕ) → IsWord text → Reads Between text [] (InWord (onto text []))
reads_word text w = subst (λ t. Reads Between t [] (InWord (onto t []))) (sym w.parts)
    (ap (λ c. after_tokens (begun c w.first).0 (scan_from (begun c w.first).1 w.others)) w.regular.0 ∙ ap (after_tokens []) (reads_regular w.others (w.first ∷ []) w.regular.1))

pub word_is : (text : List ℕ) → IsWord text → word (reverse (onto text [])) ≡ Number text
word_is text w = ap word (reverse_onto text []) ∙ subst (λ t. word t ≡ Number t) (sym w.parts)
    (ap (λ b. if b then Number (w.first ∷ w.others) else (if has_radix false (w.first ∷ w.others) then Unknown else Name (w.first ∷ w.others))) w.is_word)
