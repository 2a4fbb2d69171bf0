-- The text of a number is that of a scale without the 0 before a dot.
use Rattle.std.proofs.Common.{arith, ◌≡◌, ℕ, zero, suc, ◌/◌, ◌%◌, ◌^◌, ◌<◌, List, [], ◌∷◌, ◌++◌, false, refl, sym, ap, ◌∙◌, length, get_or}
use Rattle.std.specs.Prelude.{ℤ, pos, negsuc, nat_abs, decimal, ◌==◌}
use Rattle.std.proofs.lemmas.Grind.{common_steps}
use Rattle.std.proofs.lemmas.Fmt.{decimal_digit}
use Rattle.std.proofs.lemmas.List.{append_assoc}
use Rattle.rules.specs.Numbers.{decimals_of, fraction_text, whole_text, sign_text, without_zero, NumberWithoutZero}
use Rattle.rules.proofs.OneValue.{same_tail}
use Rattle.rules.proofs.Digits.{Writes, decimal_writes}

no_zero : (b : ℕ) → 48 < b → (b == 48) ≡ false
no_zero b h = grind (arith, common_steps)

pub above_zero : (n : ℕ) → (suc n == 0) ≡ false
above_zero n = grind (arith, common_steps)

-- digits that begin with another one lose nothing
stays : (ds rest : List ℕ) → 0 < length ds → 48 < get_or ds 0 0 → without_zero (ds ++ rest) ≡ ds ++ rest
stays [] rest some lead = absurd (omega arith)
stays (d ∷ ds) rest some lead = rw (no_zero d lead) refl

decimal_stays : (n : ℕ) (rest : List ℕ) → 0 < n → n < 10 ^ 64 → without_zero (decimal n ++ rest) ≡ decimal n ++ rest
decimal_stays n rest some h = let w : Writes n (decimal n) = decimal_writes n h in stays (decimal n) rest w.some (w.no_lead some)

-- the unsigned part: a whole part of 0 is dropped before decimals, and stays without them
unsigned_text : (n : ℕ) (ds : List ℕ) → n < 10 ^ 64 → whole_text n ds ++ fraction_text ds ≡ without_zero (decimal n ++ fraction_text ds)
unsigned_text zero [] h = let one_zero : decimal 0 ≡ 48 ∷ [] = decimal_digit 0 (omega arith) in rw one_zero refl
unsigned_text zero (d ∷ ds) h = ap (λ whole. without_zero (whole ++ 46 ∷ d ∷ ds)) (sym (decimal_digit 0 (omega arith)))
unsigned_text (suc n) [] h = sym (decimal_stays (suc n) [] (omega arith) h)
unsigned_text (suc n) (d ∷ ds) h = rw (above_zero n) (sym (decimal_stays (suc n) (46 ∷ d ∷ ds) (omega arith) h))

behind_sign : (v : ℤ) (one other : List ℕ) → sign_text v ++ one ≡ sign_text v ++ other → one ≡ other
behind_sign (pos n) one other e = e
behind_sign (negsuc n) one other e = same_tail 45 45 one other e

pub number_law : NumberWithoutZero
number_law v unsigned h e =
    let n : ℕ = nat_abs v / 10 ^ 9 in
    let ds : List ℕ = decimals_of 9 (nat_abs v % 10 ^ 9) in
    let same : decimal n ++ fraction_text ds ≡ unsigned = behind_sign v (decimal n ++ fraction_text ds) unsigned (sym (append_assoc (sign_text v) (decimal n) (fraction_text ds)) ∙ e) in
    append_assoc (sign_text v) (whole_text n ds) (fraction_text ds) ∙ ap (λ text. sign_text v ++ text) (unsigned_text n ds h ∙ ap without_zero same)
