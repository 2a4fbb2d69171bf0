-- The text of a number in a specification is the one text of its printed form.
use Rattle.std.proofs.Common.{arith, ◌≡◌, ◌≢◌, ℕ, zero, suc, ◌+◌, ◌/◌, ◌%◌, ◌^◌, ◌<◌, List, [], ◌∷◌, ◌++◌, Bool, true, false, refl, sym, ap, ◌∙◌, subst, length, take, drop, get_or}
use Rattle.std.specs.Prelude.{ℤ, nat_abs, decimal, if◌then◌else◌, ◌==◌}
use Rattle.std.specs.List.{AllPass}
use Rattle.std.specs.Char.{is_ascii_digit}
use Rattle.std.proofs.lemmas.Fmt.{decimal_digit}
use Rattle.std.proofs.lemmas.Grind.{common_steps}
use Rattle.std.proofs.lemmas.List.{append-nil}
use Rattle.std.proofs.lemmas.List.Elements.{All-nil}
use Rattle.std.proofs.lemmas.Nat.{div-mul-add, mod-mul-add}
use Rattle.rules.specs.Numbers.{number_of, decimals_value, decimals_of, fraction_text, sign_text, whole_text, number_text, IsPrintedNumber, NumberIsPrinted}
use Rattle.rules.proofs.Digits.{IsDigit, Writes, decimal_writes, decimal_of}
use Rattle.rules.proofs.LastZeros.{stripped_again}
use Rattle.rules.proofs.Printed.{decimals_pass, decimals_few, decimals_read}
use Rattle.rules.proofs.OnePrinted.{decimals_same}
use Rattle.rules.proofs.WithoutZero.{above_zero}

-- the whole part before these decimals
record IsWhole (n : ℕ) (ds whole : List ℕ) : Type 0 where
  pub digits : AllPass is_ascii_digit whole
  pub some : 0 < length whole + length ds
  pub zero_alone : take 1 whole ≡ 48 ∷ [] → whole ++ ds ≡ 48 ∷ []
  pub value : number_of whole ≡ n

one_byte : (xs : List ℕ) (b : ℕ) → take 1 xs ≡ b ∷ [] → get_or xs 0 0 ≡ b
one_byte [] b e = absurd (cc (e))
one_byte (x ∷ xs) b e = ap (λ ys. get_or ys 0 0) e

not_zero : (n : ℕ) (ds : List ℕ) → 0 < n → n < 10 ^ 64 → IsWhole n ds (decimal n)
not_zero n ds some h =
    let w : Writes n (decimal n) = decimal_writes n h in
    record {
      digits = w.pass;
      some = omega (arith, w.some);
      zero_alone = λ e. absurd (omega (arith, w.no_lead some, one_byte (decimal n) 48 e));
      value = w.value;
    }

whole_is : (n : ℕ) (ds : List ℕ) → n < 10 ^ 64 → IsWhole n ds (whole_text n ds)
whole_is zero [] h =
    let w : Writes 0 (decimal 0) = decimal_writes 0 h in
    record { digits = w.pass; some = omega (arith, w.some); zero_alone = λ e. append-nil (decimal 0) ∙ decimal_digit 0 (omega arith); value = w.value }
whole_is zero (d ∷ ds) h = record { digits = All-nil IsDigit; some = omega arith; zero_alone = λ e. absurd (cc (e)); value = refl }
whole_is (suc n) [] h = not_zero (suc n) [] (omega arith) h
whole_is (suc n) (d ∷ ds) h = subst (λ b. IsWhole (suc n) (d ∷ ds) (if b then [] else decimal (suc n))) (sym (above_zero n)) (not_zero (suc n) (d ∷ ds) (omega arith) h)

-- there is only one such whole part
no_zero_first : (w : ℕ) (ws ds : List ℕ) → 0 < length ws + length ds → (take 1 (w ∷ ws) ≡ 48 ∷ [] → (w ∷ ws) ++ ds ≡ 48 ∷ []) → w ≢ 48
no_zero_first w [] [] more alone e = omega arith
no_zero_first w [] (d ∷ ds) more alone e = let one = alone (ap (λ b. b ∷ []) e) in omega (arith, ap length one)
no_zero_first w (v ∷ ws) ds more alone e = let one = alone (ap (λ b. b ∷ []) e) in absurd (cc (one))

digits_are : (w : ℕ) (ws ds : List ℕ) → AllPass is_ascii_digit (w ∷ ws) → (take 1 (w ∷ ws) ≡ 48 ∷ [] → (w ∷ ws) ++ ds ≡ 48 ∷ []) → number_of (w ∷ ws) < 10 ^ 64
    → decimal (number_of (w ∷ ws)) ≡ w ∷ ws
digits_are w ws ds pass alone h =
    decimal_of (w ∷ ws) pass (omega arith) (λ more e. no_zero_first w ws ds (omega (arith, more)) alone (ap (λ xs. get_or xs 0 0) e)) h

one_whole : (whole ds : List ℕ) → AllPass is_ascii_digit whole → 0 < length whole + length ds → (take 1 whole ≡ 48 ∷ [] → whole ++ ds ≡ 48 ∷ []) → number_of whole < 10 ^ 64
    → whole_text (number_of whole) ds ≡ whole
one_whole [] [] pass some alone h = absurd (omega arith)
one_whole [] (d ∷ ds) pass some alone h = refl
one_whole (w ∷ ws) [] pass some alone h = digits_are w ws [] pass alone h
one_whole (w ∷ ws) (d ∷ ds) pass some alone h = by_zero (number_of (w ∷ ws) == 0) refl
  where
    by_zero : (b : Bool) → (number_of (w ∷ ws) == 0) ≡ b → (if b then [] else decimal (number_of (w ∷ ws))) ≡ w ∷ ws
    by_zero false e = digits_are w ws (d ∷ ds) pass alone h
    by_zero true e =
        let none : number_of (w ∷ ws) ≡ 0 = grind (arith, common_steps) in
        let one : w ∷ ws ≡ 48 ∷ [] = sym (digits_are w ws (d ∷ ds) pass alone h) ∙ (ap decimal none ∙ decimal_digit 0 (omega arith)) in
        absurd (no_zero_first w ws (d ∷ ds) (omega arith) alone (ap (λ xs. get_or xs 0 0) one))

has_form : (v : ℤ) → nat_abs v / 10 ^ 9 < 10 ^ 64 → IsPrintedNumber v (number_text v)
has_form v h =
    let n : ℕ = nat_abs v / 10 ^ 9 in
    let part : ℕ = nat_abs v % 10 ^ 9 in
    let w : IsWhole n (decimals_of 9 part) (whole_text n (decimals_of 9 part)) = whole_is n (decimals_of 9 part) h in
    record {
      whole = whole_text n (decimals_of 9 part);
      decimals = decimals_of 9 part;
      parts = refl;
      whole_digits = w.digits;
      some_digit = w.some;
      zero_alone = w.zero_alone;
      decimal_digits = decimals_pass 9 part (omega arith) (omega arith);
      few_decimals = decimals_few 9 part (omega arith) (omega arith);
      no_last_zero = stripped_again (drop_first part);
      value = omega (arith, w.value, decimals_read 9 part (omega arith) (omega arith));
    }
  where
    drop_first : ℕ → List ℕ
    drop_first part = drop 1 (decimal (10 ^ 9 + part))

one_text : (v : ℤ) (text : List ℕ) → nat_abs v / 10 ^ 9 < 10 ^ 64 → IsPrintedNumber v text → number_text v ≡ text
one_text v text h p =
    let (below, same) = decimals_same 9 p.decimals (omega arith) p.decimal_digits p.few_decimals p.no_last_zero in
    let n_is : nat_abs v / 10 ^ 9 ≡ number_of p.whole = ap (λ n. n / 10 ^ 9) p.value ∙ div-mul-add (number_of p.whole) (10 ^ 9) (decimals_value 9 p.decimals) below in
    let part_is : nat_abs v % 10 ^ 9 ≡ decimals_value 9 p.decimals = ap (λ n. n % 10 ^ 9) p.value ∙ mod-mul-add (number_of p.whole) (10 ^ 9) (decimals_value 9 p.decimals) below in
    let decimals_are : decimals_of 9 (nat_abs v % 10 ^ 9) ≡ p.decimals = ap (decimals_of 9) part_is ∙ same in
    let whole_are : whole_text (nat_abs v / 10 ^ 9) p.decimals ≡ p.whole =
    ap (λ n. whole_text n p.decimals) n_is ∙ one_whole p.whole p.decimals p.whole_digits p.some_digit p.zero_alone (omega (arith, h, n_is)) in
    ap (λ ds. sign_text v ++ whole_text (nat_abs v / 10 ^ 9) ds ++ fraction_text ds) decimals_are
    ∙ (ap (λ w. sign_text v ++ w ++ fraction_text p.decimals) whole_are ∙ sym p.parts)

pub number_printed : NumberIsPrinted
number_printed v text h = (λ same. subst (IsPrintedNumber v) same (has_form v h), one_text v text h)
