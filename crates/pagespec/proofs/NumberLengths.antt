-- How many bytes a printed number has: no more than the text that was read, and at most 16.
use Rattle.std.proofs.Common.{arith, rules, ◌≡◌, ◌≢◌, ℕ, zero, suc, ◌+◌, ◌-◌, ◌*◌, ◌/◌, ◌%◌, ◌^◌, ◌<◌, ◌≤◌, List, [], ◌∷◌, ◌++◌, Bool, true, false, refl, sym, ap, subst, ◌∙◌, length, take, drop}
use Rattle.std.specs.Prelude.{ℤ, pos, negsuc, nat_abs, nat_lt, decimal, fold, if◌then◌else◌, replicate, ◌==◌}
use Rattle.std.specs.List.{AllPass}
use Rattle.std.specs.Char.{is_ascii_digit}
use Rattle.std.proofs.lemmas.Fmt.{decimal_digit, length-decimal-le_wide}
use Rattle.std.proofs.lemmas.List.{length-append, length-take-le, length-drop}
use Rattle.std.proofs.lemmas.Nat.{div-mul-add, mod-mul-add}
use Rattle.std.proofs.lemmas.List.Elements.{All-nil, All-cons, All-append, All-head, All-tail, All-replicate}
use Rattle.rules.specs.Numbers.{number_of, decimals_value, decimals_of, without_last_zeros, fraction_text, sign_text, whole_text, number_text, is_large, signed, IsNumber, IsSign, IsFraction}
use Rattle.rules.proofs.Digits.{IsDigit, with_digit, number_behind, number_below, decimal_goes_on}
use Rattle.rules.proofs.LastZeros.{filled, without_last_zeros-filled, stripped_length}

-- the nine decimals that count, filled up with zeros
abbrev nine : List ℕ → List ℕ
nine decimals = take 9 (decimals ++ replicate 9 48)

nine_long : (decimals : List ℕ) → length (nine decimals) ≡ 9
nine_long decimals = length-take-le 9 (decimals ++ replicate 9 48) (omega (arith, length-append decimals (replicate 9 48)))

take_pass : (n : ℕ) (ds : List ℕ) → AllPass is_ascii_digit ds → AllPass is_ascii_digit (take n ds)
take_pass zero ds pass = All-nil IsDigit
take_pass (suc n) [] pass = All-nil IsDigit
take_pass (suc n) (d ∷ ds) pass = All-cons IsDigit d (take n ds) (All-head IsDigit d ds pass) (take_pass n ds (All-tail IsDigit d ds pass))

nine_pass : (decimals : List ℕ) → AllPass is_ascii_digit decimals → AllPass is_ascii_digit (nine decimals)
nine_pass decimals pass = take_pass 9 (decimals ++ replicate 9 48) (All-append IsDigit decimals (replicate 9 48) pass (All-replicate IsDigit 9 48 refl))

pub decimals_below : (decimals : List ℕ) → AllPass is_ascii_digit decimals → decimals_value 9 decimals < 10 ^ 9
decimals_below decimals pass = subst (λ n. decimals_value 9 decimals < 10 ^ n) (nine_long decimals) (number_below (nine decimals) (nine_pass decimals pass))

-- the printed decimals are those that count, without the zeros at their end
decimals_printed : (decimals : List ℕ) → AllPass is_ascii_digit decimals → decimals_of 9 (decimals_value 9 decimals) ≡ without_last_zeros (nine decimals)
decimals_printed decimals pass =
    let row = nine decimals in
    let value : fold with_digit 1 row ≡ 10 ^ 9 + decimals_value 9 decimals = omega (arith, number_behind row (1), ap (λ n. 10 ^ n) (nine_long decimals)) in
    let text : decimal (10 ^ 9 + decimals_value 9 decimals) ≡ 49 ∷ row =
    ap decimal (sym value) ∙ (decimal_goes_on 1 row (omega arith) (nine_pass decimals pass) (omega (arith, value, decimals_below decimals pass)) ∙ ap (λ x. x ++ row) (decimal_digit 1 (omega arith))) in
    ap (λ xs. without_last_zeros (drop 1 xs)) text

pub decimals_short : (decimals : List ℕ) → AllPass is_ascii_digit decimals → length (decimals_of 9 (decimals_value 9 decimals)) ≤ length decimals
decimals_short decimals pass = subst (λ xs. length xs ≤ length decimals) (sym (decimals_printed decimals pass)) (by_few (nat_lt (length decimals) 9) refl)
  where
    by_few : (b : Bool) → nat_lt (length decimals) 9 ≡ b → length (without_last_zeros (nine decimals)) ≤ length decimals
    by_few true e =
        let few : length decimals < 9 = search (rules, e) in
        subst (λ xs. length xs ≤ length decimals) (sym (ap without_last_zeros (filled decimals 9 9 (omega arith) (omega arith)) ∙ without_last_zeros-filled decimals (9 - length decimals))) (stripped_length decimals)
    by_few false e =
        let many : 9 ≤ length decimals = search (rules, e) in
        omega (arith, stripped_length (nine decimals), nine_long decimals)

-- there are at least as many digits as in the printed decimal
pub digits_short : (ds : List ℕ) → AllPass is_ascii_digit ds → ds ≢ [] → number_of ds < 10 ^ 64 → length (decimal (number_of ds)) ≤ length ds
digits_short [] pass some small = absurd (some refl)
digits_short (d ∷ ds) pass some small = length-decimal-le_wide (length (d ∷ ds)) (number_of (d ∷ ds)) (omega arith) (number_below (d ∷ ds) pass) small

abs_signed : (negative : Bool) (n : ℕ) → nat_abs (signed negative n) ≡ n
abs_signed true zero = refl
abs_signed true (suc n) = refl
abs_signed false n = refl

-- a sign is printed only where one is written
sign_short : (sign : List ℕ) (negative : Bool) (n : ℕ) → IsSign sign negative → length (sign_text (signed negative n)) ≤ length sign
sign_short [] true n is = absurd (cc (is))
sign_short [] false n is = omega arith
sign_short (b ∷ rest) true zero is = omega arith
sign_short (b ∷ rest) true (suc n) is = omega arith
sign_short (b ∷ rest) false n is = omega arith

pub sign_few : (v : ℤ) → length (sign_text v) ≤ 1
sign_few (pos n) = omega arith
sign_few (negsuc n) = omega arith

fraction_long : (fraction decimals : List ℕ) → IsFraction fraction decimals → decimals ≢ [] → length fraction ≡ suc (length decimals)
fraction_long [] decimals is some = absurd (some is)
fraction_long (b ∷ rest) decimals is some = ap (λ x. suc (length x)) is.1

fraction_short : (printed_ fraction decimals : List ℕ) → IsFraction fraction decimals → length printed_ ≤ length decimals → length (fraction_text printed_) ≤ length fraction
fraction_short [] fraction decimals is few = omega arith
fraction_short (d ∷ ds) fraction [] is few = absurd (omega arith)
fraction_short (d ∷ ds) fraction (c ∷ decimals) is few = omega (arith, few, fraction_long fraction (c ∷ decimals) is (λ e. absurd (cc (e))))

fraction_few : (ds : List ℕ) → length (fraction_text ds) ≤ suc (length ds)
fraction_few [] = omega arith
fraction_few (d ∷ ds) = omega arith

left_out_short : (b : Bool) (n k : ℕ) → length (decimal n) ≤ k → length (if b then [] else decimal n) ≤ k
left_out_short true n k h = omega arith
left_out_short false n k h = h

-- a whole part and decimals are printed no longer than they are written
whole_short : (whole fraction decimals printed_ : List ℕ) → AllPass is_ascii_digit whole → number_of whole < 10 ^ 64 → IsFraction fraction decimals → whole ++ decimals ≢ [] → length printed_ ≤ length decimals
    → length (whole_text (number_of whole) printed_) + length (fraction_text printed_) ≤ length whole + length fraction
whole_short [] fraction [] [] pass small is some few = absurd (some refl)
whole_short [] fraction [] (p ∷ ps) pass small is some few = absurd (some refl)
whole_short [] fraction (c ∷ decimals) [] pass small is some few =
    omega (arith, length-decimal-le_wide 1 0 (omega arith) (omega arith) (omega arith), fraction_long fraction (c ∷ decimals) is (λ e. absurd (cc (e))))
whole_short [] fraction (c ∷ decimals) (p ∷ ps) pass small is some few = omega (arith, fraction_short (p ∷ ps) fraction (c ∷ decimals) is few)
whole_short (w ∷ whole) fraction decimals [] pass small is some few =
    omega (arith, digits_short (w ∷ whole) pass (λ e. absurd (cc (e))) small)
whole_short (w ∷ whole) fraction decimals (p ∷ ps) pass small is some few =
    omega (arith, left_out_short (number_of (w ∷ whole) == 0) (number_of (w ∷ whole)) (length (w ∷ whole)) (digits_short (w ∷ whole) pass (λ e. absurd (cc (e))) small), fraction_short (p ∷ ps) fraction decimals is few)

-- a number is small if its whole part is
pub small_abs : (v : ℤ) → is_large v ≡ false → nat_abs v < 10 ^ 14
small_abs v e = search (rules, e)

pub record NumberParts (v : ℤ) (whole decimals : List ℕ) : Type 0 where
  pub below : decimals_value 9 decimals < 10 ^ 9
  pub whole_is : nat_abs v / 10 ^ 9 ≡ number_of whole
  pub part_is : nat_abs v % 10 ^ 9 ≡ decimals_value 9 decimals

parts_of : (negative : Bool) (whole decimals : List ℕ) (v : ℤ) → AllPass is_ascii_digit decimals → v ≡ signed negative (number_of whole * 10 ^ 9 + decimals_value 9 decimals) → NumberParts v whole decimals
parts_of negative whole decimals v pass e =
    let size : nat_abs v ≡ number_of whole * 10 ^ 9 + decimals_value 9 decimals = ap nat_abs e ∙ abs_signed negative (number_of whole * 10 ^ 9 + decimals_value 9 decimals) in
    let below = decimals_below decimals pass in
    record {
      below = below;
      whole_is = ap (λ n. n / 10 ^ 9) size ∙ div-mul-add (number_of whole) (10 ^ 9) (decimals_value 9 decimals) below;
      part_is = ap (λ n. n % 10 ^ 9) size ∙ mod-mul-add (number_of whole) (10 ^ 9) (decimals_value 9 decimals) below;
    }

-- a number is printed no longer than it is written
pub number_short : (text : List ℕ) (v : ℤ) → IsNumber text v → is_large v ≡ false → length (number_text v) ≤ length text
number_short text v (negative, sign, whole, fraction, decimals, e, s, w, f, d, n, value) small =
    let parts = parts_of negative whole decimals v d value in
    let few : length (decimals_of 9 (nat_abs v % 10 ^ 9)) ≤ length decimals = subst (λ x. length (decimals_of 9 x) ≤ length decimals) (sym parts.part_is) (decimals_short decimals d) in
    let body : length (whole_text (nat_abs v / 10 ^ 9) (decimals_of 9 (nat_abs v % 10 ^ 9))) + length (fraction_text (decimals_of 9 (nat_abs v % 10 ^ 9))) ≤ length whole + length fraction =
    subst (λ x. length (whole_text x (decimals_of 9 (nat_abs v % 10 ^ 9))) + length (fraction_text (decimals_of 9 (nat_abs v % 10 ^ 9))) ≤ length whole + length fraction) (sym parts.whole_is)
    (whole_short whole fraction decimals _ w (omega (arith, parts.whole_is, small_abs v small)) f n few) in
    let signs : length (sign_text v) ≤ length sign = subst (λ x. length (sign_text x) ≤ length sign) (sym value) (sign_short sign negative _ s) in
    three (sign_text v) (whole_text (nat_abs v / 10 ^ 9) (decimals_of 9 (nat_abs v % 10 ^ 9))) (fraction_text (decimals_of 9 (nat_abs v % 10 ^ 9))) sign whole fraction text e signs body
  where
    three : (a b c x y z t : List ℕ) → t ≡ x ++ y ++ z → length a ≤ length x → length b + length c ≤ length y + length z → length (a ++ b ++ c) ≤ length t
    three a b c x y z t e h k = omega (arith, h, k, ap length e, length-append (a ++ b) c, length-append a b, length-append (x ++ y) z, length-append x y)

whole_few : (n : ℕ) (ds : List ℕ) → n < 10 ^ 5 → length (whole_text n ds) ≤ 5
whole_few n [] h = length-decimal-le_wide 5 n (omega arith) h (omega arith)
whole_few n (d ∷ ds) h = by_zero (n == 0)
  where
    by_zero : (b : Bool) → length (if b then [] else decimal n) ≤ 5
    by_zero true = omega arith
    by_zero false = length-decimal-le_wide 5 n (omega arith) h (omega arith)

part_few : (part : ℕ) → part < 10 ^ 9 → length (decimals_of 9 part) ≤ 9
part_few part h = omega (arith, stripped_length (drop 1 (decimal (10 ^ 9 + part))), length-drop 1 (decimal (10 ^ 9 + part)), length-decimal-le_wide 10 (10 ^ 9 + part) (omega arith) (omega arith) (omega arith))

-- any small number is printed with at most 16 bytes
pub number_few : (v : ℤ) → is_large v ≡ false → length (number_text v) ≤ 16
number_few v small =
    let n = nat_abs v in
    let h = small_abs v small in
    let ds = decimals_of 9 (n % 10 ^ 9) in
    omega (
      arith,
      sign_few v,
      whole_few (n / 10 ^ 9) ds (omega (arith, h)),
      fraction_few ds,
      part_few (n % 10 ^ 9) (omega arith),
      length-append (sign_text v ++ whole_text (n / 10 ^ 9) ds) (fraction_text ds),
      length-append (sign_text v) (whole_text (n / 10 ^ 9) ds),
    )
