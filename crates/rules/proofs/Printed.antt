-- Printed decimals: they are of the printed form, and are read again as what was printed.
use Rattle.std.proofs.Common.{arith, ◌≡◌, ◌≢◌, ℕ, zero, suc, ◌+◌, ◌*◌, ◌/◌, ◌%◌, ◌^◌, ◌<◌, ◌≤◌, List, [], ◌∷◌, ◌++◌, Bool, true, false, refl, sym, ap, subst, ◌∙◌, length, take, drop, get_or}
use Rattle.std.specs.Prelude.{ℤ, pos, negsuc, nat_abs, decimal, if◌then◌else◌, replicate, ◌==◌}
use Rattle.std.specs.List.{AllPass}
use Rattle.std.specs.Char.{is_ascii_digit}
use Rattle.std.proofs.lemmas.Grind.{common_steps}
use Rattle.std.proofs.lemmas.Fmt.{decimal_step_wide, decimal_digit}
use Rattle.std.proofs.lemmas.List.{length-append, get_or-take}
use Rattle.std.proofs.Math.Nat.{pow-succ', one-le-pow, pow-le-pow_right, mod-lt}
use Rattle.std.proofs.lemmas.Nat.{div-add-mod'}
use Rattle.std.proofs.lemmas.List.Elements.{All-nil, All-cons, All-append}
use Rattle.rules.specs.Numbers.{number_of, decimals_value, printed, decimals_of, without_last_zeros, fraction_text, whole_text, number_text, sign_text, signed, is_negative, IsNumber, IsSign, IsFraction, IsPrinted}
use Rattle.rules.proofs.Digits.{IsDigit, Writes, is_digit, number_of-last, decimal_writes}
use Rattle.rules.proofs.LastZeros.{padded, stripped_pass, stripped_length, stripped_again}

-- the row of decimals after the one that was put before them
pub record IsRow (e part : ℕ) (ds : List ℕ) : Type 0 where
  pub text : decimal (10 ^ e + part) ≡ 49 ∷ ds
  pub long : length ds ≡ e
  pub value : number_of ds ≡ part
  pub pass : AllPass is_ascii_digit ds

pub fits : (e part : ℕ) → part < 10 ^ e → e < 64 → 10 ^ e + part < 10 ^ 64
fits e part h small =
    let p : 10 ^ e ≤ 10 ^ 63 = pow-le-pow_right {n = 10} (omega arith) {i = e} {j = 63} (omega arith) in
    omega arith

pub row : (e part : ℕ) → part < 10 ^ e → e < 64 → (ds : List ℕ) × IsRow e part ds
row zero part h small =
    let none : part ≡ 0 = omega arith in
    ([], record { text = ap decimal (omega arith) ∙ decimal_digit 1 (omega arith); long = refl; value = sym none; pass = All-nil IsDigit })
row (suc e) part h small =
    let p : 10 ^ suc e ≡ 10 * 10 ^ e = pow-succ' 10 e in
    let (ds, r) = row e (part / 10) (omega arith) (omega arith) in
    let front : (10 ^ suc e + part) / 10 ≡ 10 ^ e + part / 10 = omega arith in
    let last : (10 ^ suc e + part) % 10 ≡ part % 10 = omega arith in
    let one : 1 ≤ 10 ^ e = one-le-pow e 10 (omega arith) in
    let text : decimal (10 ^ suc e + part) ≡ (49 ∷ ds) ++ ((48 + part % 10) ∷ []) =
    decimal_step_wide (10 ^ suc e + part) (omega arith) (fits (suc e) part h small)
    ∙ (ap (λ x. decimal x ++ ((48 + (10 ^ suc e + part) % 10) ∷ [])) front ∙ (ap (λ x. x ++ ((48 + (10 ^ suc e + part) % 10) ∷ [])) r.text ∙ ap (λ x. (49 ∷ ds) ++ ((48 + x) ∷ [])) last)) in (
      ds ++ ((48 + part % 10) ∷ []),
      record {
        text = text;
        long = omega (arith, length-append ds ((48 + part % 10) ∷ []), r.long);
        value = number_of-last ds (48 + part % 10) ∙ omega (arith, r.value);
        pass = All-append IsDigit ds ((48 + part % 10) ∷ []) r.pass (All-cons IsDigit (48 + part % 10) [] (is_digit (part % 10) (omega arith)) (All-nil IsDigit));
      },
    )

-- the printed decimals are read as their part, with each trailing zero filled in again
pub decimals_read : (e part : ℕ) → part < 10 ^ e → e < 64 → decimals_value e (decimals_of e part) ≡ part
decimals_read e part h small =
    let (ds, r) = row e part h small in
    let same : drop 1 (decimal (10 ^ e + part)) ≡ ds = ap (drop 1) r.text in
    ap (λ xs. number_of (take e (without_last_zeros xs ++ replicate e 48))) same
    ∙ (ap (λ k. number_of (take k (without_last_zeros ds ++ replicate e 48))) (sym r.long) ∙ (ap number_of (padded ds e (omega (arith, r.long))) ∙ r.value))

-- the printed decimals are digits, no more than there is room for
pub decimals_pass : (e part : ℕ) → part < 10 ^ e → e < 64 → AllPass is_ascii_digit (decimals_of e part)
decimals_pass e part h small =
    let (ds, r) = row e part h small in
    stripped_pass (drop 1 (decimal (10 ^ e + part))) (subst (AllPass is_ascii_digit) (sym (ap (drop 1) r.text)) r.pass)

pub decimals_few : (e part : ℕ) → part < 10 ^ e → e < 64 → length (decimals_of e part) ≤ e
decimals_few e part h small =
    let (ds, r) = row e part h small in
    omega (arith, stripped_length (drop 1 (decimal (10 ^ e + part))), ap (λ xs. length (drop 1 xs)) r.text, r.long)

pub fraction_is : (ds : List ℕ) → IsFraction (fraction_text ds) ds
fraction_is [] = refl
fraction_is (d ∷ ds) = (refl, refl)

pub sign_is : (v : ℤ) → IsSign (sign_text v) (is_negative v)
sign_is (pos n) = refl
sign_is (negsuc n) = (refl, refl)

signed_abs : (v : ℤ) → v ≡ signed (is_negative v) (nat_abs v)
signed_abs (pos n) = refl
signed_abs (negsuc n) = refl

-- a sign, a whole part and the decimals are a number text of their number
from_parts : (v : ℤ) (whole : List ℕ) → AllPass is_ascii_digit whole → number_of whole ≡ nat_abs v / 10 ^ 9 → whole ++ decimals_of 9 (nat_abs v % 10 ^ 9) ≢ []
    → IsNumber (sign_text v ++ whole ++ fraction_text (decimals_of 9 (nat_abs v % 10 ^ 9))) v
from_parts v whole pass value some =
    let part : ℕ = nat_abs v % 10 ^ 9 in (
      is_negative v,
      sign_text v,
      whole,
      fraction_text (decimals_of 9 part),
      decimals_of 9 part,
      refl,
      sign_is v,
      pass,
      fraction_is (decimals_of 9 part),
      decimals_pass 9 part (omega arith) (omega arith),
      some,
      signed_abs v ∙ ap (signed (is_negative v)) (omega (arith, value, decimals_read 9 part (omega arith) (omega arith))),
    )

not_nil : (xs ys : List ℕ) → 0 < length xs → xs ++ ys ≢ []
not_nil [] ys h e = omega arith
not_nil (x ∷ xs) ys h e = cc (e)

-- the printed text of a number is a number text, of that number
pub printed_is_number : (v : ℤ) → nat_abs v / 10 ^ 9 < 10 ^ 64 → IsNumber (printed 9 v) v
printed_is_number v h =
    let w = decimal_writes (nat_abs v / 10 ^ 9) h in
    from_parts v (decimal (nat_abs v / 10 ^ 9)) w.pass w.value (not_nil _ _ w.some)

-- so is the text with no 0 before a dot
whole_text-pass : (n : ℕ) (ds : List ℕ) → n < 10 ^ 64 → AllPass is_ascii_digit (whole_text n ds) × (number_of (whole_text n ds) ≡ n) × (whole_text n ds ++ ds ≢ [])
whole_text-pass n [] h = let w = decimal_writes n h in (w.pass, w.value, not_nil (decimal n) [] w.some)
whole_text-pass n (d ∷ ds) h = by_case (n == 0) refl
  where
    by_case : (b : Bool) → (n == 0) ≡ b
        → AllPass is_ascii_digit (if b then [] else decimal n) × (number_of (if b then [] else decimal n) ≡ n) × ((if b then [] else decimal n) ++ d ∷ ds ≢ [])
    by_case true e = (All-nil IsDigit, grind (arith, common_steps), λ f. cc (f))
    by_case false e = let w = decimal_writes n h in (w.pass, w.value, not_nil (decimal n) (d ∷ ds) w.some)

pub number_text_is_number : (v : ℤ) → nat_abs v / 10 ^ 9 < 10 ^ 64 → IsNumber (number_text v) v
number_text_is_number v h =
    let w = whole_text-pass (nat_abs v / 10 ^ 9) (decimals_of 9 (nat_abs v % 10 ^ 9)) h in
    from_parts v (whole_text (nat_abs v / 10 ^ 9) (decimals_of 9 (nat_abs v % 10 ^ 9))) w.0 w.1 w.2

no_lead : (n : ℕ) → n < 10 ^ 64 → 1 < length (decimal n) → take 1 (decimal n) ≢ 48 ∷ []
no_lead zero h long e = let one : length (decimal 0) ≡ 1 = ap length (decimal_digit 0 (omega arith)) in omega arith
no_lead (suc n) h long e =
    let f : 48 < get_or (decimal (suc n)) 0 0 = (decimal_writes (suc n) h).no_lead (omega arith) in
    let g : get_or (take 1 (decimal (suc n))) 0 0 ≡ get_or (decimal (suc n)) 0 0 = get_or-take 1 (decimal (suc n)) 0 0 (omega arith) in
    let k : get_or (take 1 (decimal (suc n))) 0 0 ≡ 48 = ap (λ xs. get_or xs 0 0) e in
    omega arith

-- the printed text is of the printed form
pub printed_is_printed : (e : ℕ) (v : ℤ) → e < 64 → nat_abs v / 10 ^ e < 10 ^ 64 → IsPrinted e v (printed e v)
printed_is_printed e v small h =
    let whole : ℕ = nat_abs v / 10 ^ e in
    let part : ℕ = nat_abs v % 10 ^ e in
    let one : 1 ≤ 10 ^ e = one-le-pow e 10 (omega arith) in
    let below : part < 10 ^ e = mod-lt (nat_abs v) {m = 10 ^ e} one in
    let w : Writes whole (decimal whole) = decimal_writes whole h in
    record {
      whole = decimal whole;
      decimals = decimals_of e part;
      parts = refl;
      whole_digits = w.pass;
      some_digit = w.some;
      no_leading_zero = no_lead whole h;
      decimal_digits = decimals_pass e part below small;
      few_decimals = decimals_few e part below small;
      no_last_zero = stripped_again (drop 1 (decimal (10 ^ e + part)));
      value = sym (ap (λ x. x * 10 ^ e + decimals_value e (decimals_of e part)) w.value ∙ (ap (λ x. whole * 10 ^ e + x) (decimals_read e part below small) ∙ div-add-mod' (nat_abs v) (10 ^ e)));
    }
