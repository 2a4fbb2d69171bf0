-- A text of the printed form is the printed text.
use Rattle.std.proofs.Common.{arith, ◌≡◌, ◌≢◌, ℕ, ◌+◌, ◌-◌, ◌/◌, ◌%◌, ◌^◌, ◌<◌, ◌≤◌, List, [], ◌∷◌, ◌++◌, refl, sym, ap, subst, ◌∙◌, length, drop, get_or}
use Rattle.std.specs.Prelude.{ℤ, nat_abs, decimal, replicate}
use Rattle.std.specs.List.{AllPass}
use Rattle.std.specs.Char.{is_ascii_digit}
use Rattle.std.proofs.lemmas.List.{length-append, length-replicate}
use Rattle.std.proofs.lemmas.Nat.{div-mul-add, mod-mul-add}
use Rattle.std.proofs.lemmas.List.Elements.{All-cons, All-append, All-replicate}
use Rattle.rules.specs.Numbers.{number_of, decimals_value, printed, decimals_of, without_last_zeros, fraction_text, sign_text, IsPrinted, PrintedIsPrinted}
use Rattle.rules.proofs.Digits.{IsDigit, number_behind, number_below, decimal_of}
use Rattle.rules.proofs.LastZeros.{filled, without_last_zeros-filled}
use Rattle.rules.proofs.Printed.{fits, printed_is_printed}

one_first : (b : ℕ) → b ≡ 49 → b ∷ [] ≢ 48 ∷ []
one_first b one e = let first : b ≡ 48 = ap (λ xs. get_or xs 0 0) e in omega arith

-- decimals with no zero at their end are those that are printed for their value
pub decimals_same : (e : ℕ) (ds : List ℕ) → e < 64 → AllPass is_ascii_digit ds → length ds ≤ e → without_last_zeros ds ≡ ds
    → (decimals_value e ds < 10 ^ e) × (decimals_of e (decimals_value e ds) ≡ ds)
decimals_same e ds small pass few stripped =
    let row : List ℕ = ds ++ replicate (e - length ds) 48 in
    let long : length row ≡ e = omega (arith, length-append ds (replicate (e - length ds) 48), length-replicate {A = ℕ} (e - length ds) 48) in
    let digits : AllPass is_ascii_digit row = All-append IsDigit ds (replicate (e - length ds) 48) pass (All-replicate IsDigit (e - length ds) 48 refl) in
    let value : decimals_value e ds ≡ number_of row = ap number_of (filled ds e e few (omega arith)) in
    let below : number_of row < 10 ^ e = subst (λ n. number_of row < 10 ^ n) long (number_below row digits) in
    let behind_one : 10 ^ e + decimals_value e ds ≡ number_of (49 ∷ row) = omega (arith, number_behind row (1), ap (λ n. 10 ^ n) long, value) in
    let text : decimal (10 ^ e + decimals_value e ds) ≡ 49 ∷ row =
    ap decimal behind_one ∙ decimal_of (49 ∷ row) (All-cons IsDigit 49 row refl digits) (omega arith) (λ h. one_first 49 refl) (omega (arith, behind_one, fits e (number_of row) below small, value)) in
    (omega (arith, value, below), ap (λ xs. without_last_zeros (drop 1 xs)) text ∙ (without_last_zeros-filled ds (e - length ds) ∙ stripped))

-- a text of the printed form is the printed text
one_printed : (e : ℕ) (v : ℤ) (text : List ℕ) → e < 64 → nat_abs v / 10 ^ e < 10 ^ 64 → IsPrinted e v text → printed e v ≡ text
one_printed e v text small h p =
    let (below, same) = decimals_same e p.decimals small p.decimal_digits p.few_decimals p.no_last_zero in
    let whole_is : nat_abs v / 10 ^ e ≡ number_of p.whole = ap (λ n. n / 10 ^ e) p.value ∙ div-mul-add (number_of p.whole) (10 ^ e) (decimals_value e p.decimals) below in
    let part_is : nat_abs v % 10 ^ e ≡ decimals_value e p.decimals = ap (λ n. n % 10 ^ e) p.value ∙ mod-mul-add (number_of p.whole) (10 ^ e) (decimals_value e p.decimals) below in
    let whole_text : decimal (nat_abs v / 10 ^ e) ≡ p.whole =
    ap decimal whole_is ∙ decimal_of p.whole p.whole_digits p.some_digit p.no_leading_zero (omega (arith, h, whole_is)) in
    let decimals_text : decimals_of e (nat_abs v % 10 ^ e) ≡ p.decimals = ap (decimals_of e) part_is ∙ same in
    ap (λ w. sign_text v ++ w ++ fraction_text (decimals_of e (nat_abs v % 10 ^ e))) whole_text
    ∙ (ap (λ d. sign_text v ++ p.whole ++ fraction_text d) decimals_text ∙ sym p.parts)

pub printed_law : PrintedIsPrinted
printed_law e v text small h = (λ same. subst (IsPrinted e v) same (printed_is_printed e v small h), one_printed e v text small h)
