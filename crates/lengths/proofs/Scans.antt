-- What a scan over the parts of a number gives.
use Rattle.std.proofs.Common.{rules, arith, ◌≡◌, ◌≢◌, ℕ, zero, suc, ◌+◌, ◌-◌, ◌*◌, ◌^◌, ◌<◌, ◌≤◌, List, [], ◌∷◌, ◌++◌, Bool, true, false, Some, None, refl, sym, ap, subst, ◌∙◌, length, drop}
use Rattle.std.specs.Prelude.{Result, Ok, Err, IfOk, IfErr, ℤ, nat_abs, nat_lt, if◌then◌else◌}
use Rattle.std.specs.List.{AllPass}
use Rattle.std.specs.Char.{is_ascii_digit}
use Rattle.std.proofs.lemmas.List.{length-append, length-drop, drop_at}
use Rattle.rules.specs.Numbers.{signed, number_of, decimals_value, IsLongestNumber, IsNumberRead}
use Rattle.rules.specs.Numbers.{is_large}
use Rattle.lengths.specs.Reading.{digits, past_digits, is_minus, unsigned, decimals_at, past_decimals, decimal_value, is_empty, number_from, number_at}
use Rattle.lengths.proofs.Digits.{digits_pass}
use Rattle.lengths.proofs.Numbers.{from_parts, number_found, number_longest, no_number, decimals_pass}
use Rattle.lengths.specs.Refusals.{IsRefused, outcome_of}
use Rattle.lengths.specs.declared.read.NumberError.{NumberError}
use Rattle.lengths.specs.declared.read.NumberError.TheVariants.{NotANumber, TooLarge}

-- the parts of the number at the front of a text
pub record IsCut (t : List ℕ) (negative : Bool) (body whole point decimals rest : List ℕ) : Type 0 where
  pub sign : negative ≡ is_minus t
  pub body_is : body ≡ unsigned t
  pub whole_is : whole ≡ digits body
  pub point_is : point ≡ past_digits body
  pub decimals_is : decimals ≡ decimals_at point
  pub rest_is : rest ≡ past_decimals point

nil_of : (xs ys : List ℕ) → length xs + length ys ≡ 0 → is_empty (xs ++ ys) ≡ true
nil_of [] [] h = refl
nil_of [] (y ∷ ys) h = absurd (omega arith)
nil_of (x ∷ xs) ys h = absurd (omega arith)

some_of : (xs ys : List ℕ) → length xs + length ys ≢ 0 → xs ++ ys ≢ []
some_of xs ys h e = h (omega (arith, length-append xs ys, ap length e))

pub scan_none : {negative : Bool} {body whole point decimals rest : List ℕ} (t : List ℕ) → IsCut t negative body whole point decimals rest → length whole + length decimals ≡ 0 → number_at t ≡ None
unfolding number_at
scan_none {whole = whole} {point = point} {decimals = decimals} t c h =
    let w : whole ≡ digits (unsigned t) = c.whole_is ∙ ap digits c.body_is in
    let p : point ≡ past_digits (unsigned t) = c.point_is ∙ ap past_digits c.body_is in
    let d : decimals ≡ decimals_at (past_digits (unsigned t)) = c.decimals_is ∙ ap decimals_at p in
    let e : is_empty (digits (unsigned t) ++ decimals_at (past_digits (unsigned t))) ≡ true = ap (λ x. is_empty (x ++ decimals_at (past_digits (unsigned t)))) (sym w) ∙ (ap (λ x. is_empty (whole ++ x)) (sym d) ∙ nil_of whole decimals h) in
    ap (λ b. if b then None else Some (decimal_value (is_minus t) (digits (unsigned t)) (decimals_at (past_digits (unsigned t))), past_decimals (past_digits (unsigned t)))) e

pub scan_parts : {negative : Bool} {body whole point decimals rest : List ℕ} (t : List ℕ) → IsCut t negative body whole point decimals rest → length whole + length decimals ≢ 0 → number_at t ≡ Some (decimal_value negative whole decimals, rest)
unfolding number_at
scan_parts {negative = negative} {whole = whole} {point = point} {decimals = decimals} {rest = rest} t c h =
    let w : digits (unsigned t) ≡ whole = sym (c.whole_is ∙ ap digits c.body_is) in
    let p : past_digits (unsigned t) ≡ point = sym (c.point_is ∙ ap past_digits c.body_is) in
    let d : decimals_at (past_digits (unsigned t)) ≡ decimals = ap decimals_at p ∙ sym c.decimals_is in
    let r : past_decimals (past_digits (unsigned t)) ≡ rest = ap past_decimals p ∙ sym c.rest_is in
    ap (λ b. number_from b (unsigned t)) (sym c.sign) ∙ from_parts negative (unsigned t) whole decimals rest w d r (some_of whole decimals h)

-- what follows a number is the rest of the text
pub behind : (t rest : List ℕ) (v : ℤ) → number_at t ≡ Some (v, rest) → (length rest ≤ length t) × (drop (length t - length rest) t ≡ rest)
behind t rest v e =
    let (front, whole, is) = number_found t rest v e in
    let long : length t ≡ length front + length rest = ap length whole ∙ length-append front rest in
    (omega (arith, long), ap (drop (length t - length rest)) whole ∙ drop_at front rest _ (omega (arith, long)))

pub scan_some : {negative : Bool} {body whole point decimals rest : List ℕ} (t : List ℕ) → IsCut t negative body whole point decimals rest → length whole + length decimals ≢ 0
    → (length rest ≤ length t) × (number_at t ≡ Some (decimal_value negative whole decimals, drop (length t - length rest) t))
scan_some {negative = negative} {whole = whole} {decimals = decimals} {rest = rest} t c h =
    let e = scan_parts t c h in
    let b = behind t rest (decimal_value negative whole decimals) e in
    (b.0, e ∙ ap (λ x. Some (decimal_value negative whole decimals, x)) (sym b.1))

pub whole_pass : {negative : Bool} {body whole point decimals rest : List ℕ} (t : List ℕ) → IsCut t negative body whole point decimals rest → AllPass is_ascii_digit whole
whole_pass {body = body} t c = subst (AllPass is_ascii_digit) (sym c.whole_is) (digits_pass body)

pub fraction_pass : {negative : Bool} {body whole point decimals rest : List ℕ} (t : List ℕ) → IsCut t negative body whole point decimals rest → AllPass is_ascii_digit decimals
fraction_pass {point = point} t c = subst (AllPass is_ascii_digit) (sym c.decimals_is) (decimals_pass point)

abs_signed : (negative : Bool) (n : ℕ) → nat_abs (signed negative n) ≡ n
abs_signed true zero = refl
abs_signed true (suc n) = refl
abs_signed false n = refl

less : (a b : ℕ) → a < b → nat_lt a b ≡ true
less a b h = search rules

pub large_value : (negative : Bool) (whole decimals : List ℕ) → 100_000 ≤ number_of whole → is_large (decimal_value negative whole decimals) ≡ true
large_value negative whole decimals h =
    ap (nat_lt 99_999_999_999_999) (abs_signed negative (number_of whole * 10 ^ 9 + decimals_value 9 decimals)) ∙ less _ _ (omega arith)

-- the number found, of this length, is the longest
pub longest : (t : List ℕ) (n : ℕ) (v : ℤ) → n ≤ length t → number_at t ≡ Some (v, drop n t) → IsLongestNumber t n v
longest t n v h e = subst (λ k. IsLongestNumber t k v) (omega (arith, length-drop n t)) (number_longest t (drop n t) v e).1

-- a value in a number's range has an integer part of at most 99,999
pub not_large : (v : ℤ) → nat_abs v ≤ 99_999_999_999_999 → is_large v ≡ false
not_large v h = search rules

-- what a scan gives is what reading a number at the start gives
pub reads : (t : List ℕ) (r : Result (ℤ × ℕ) NumberError) → IfOk r (λ x. number_at t ≡ Some (x.0, drop x.1 t)) → IfOk r (λ x. x.1 ≤ length t)
    → IfOk r (λ x. nat_abs x.0 ≤ 99_999_999_999_999) → IfErr r (IsRefused t) → IsNumberRead t (outcome_of r)
reads t (Ok x) found within small none = (longest t x.1 x.0 within found, not_large x.0 small)
reads t (Err NotANumber) found within small none = no_number t none
reads t (Err (TooLarge n)) found within small (h, v, large, e) = (v, longest t n v h e, large)

-- the value, as it was put together
pub put_together : (t r whole decimals : List ℕ) (negative : Bool) (p d : ℕ) (v : ℤ) → number_at t ≡ Some (decimal_value negative whole decimals, r) → p ≡ number_of whole → d ≡ decimals_value 9 decimals → v ≡ signed negative (p * 10 ^ 9 + d)
    → number_at t ≡ Some (v, r)
put_together t r whole decimals negative p d v e ep ed ev =
    e ∙ ap (λ x. Some (x, r)) (ap (λ x. signed negative (x * 10 ^ 9 + decimals_value 9 decimals)) (sym ep) ∙ (ap (λ x. signed negative (p * 10 ^ 9 + x)) (sym ed) ∙ sym ev))
