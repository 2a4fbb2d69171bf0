-- Where no number can be read on.
use Rattle.std.proofs.Common.{inl, inr, arith, ◌≡◌, ℕ, List, [], ◌∷◌, ◌++◌, Bool, true, false, Some, None, refl, sym, ap, subst, ◌∙◌, append_assoc, append-nil, length}
use Rattle.std.specs.Prelude.{◌==◌, ◌||◌, ℤ, if◌then◌else◌}
use Rattle.std.specs.Char.{is_ascii_digit}
use Rattle.std.specs.List.{AllPass}
use Rattle.std.proofs.lemmas.List.Elements.{All-nil, All-cons}
use Rattle.rules.specs.Numbers.{IsNumber, IsSign}
use Rattle.lengths.specs.Reading.{digits, past_digits, is_minus, unsigned, decimals_at, is_empty, number_from, number_at}
use Rattle.lengths.proofs.Digits.{IsDigit, by_test, digits-yes}
use Rattle.lengths.proofs.Numbers.{same_byte, sign_of}
use Rattle.pagespec.specs.Reading.{byte_at}
use Rattle.pagespec.specs.Places.{StuckIn}
use Rattle.pagespec.proofs.Measures.{byte_found}

pub zero_digits : AllPass is_ascii_digit (48 ∷ [])
zero_digits = All-cons IsDigit 48 [] refl (All-nil IsDigit)

-- a sign before it
zero_after : (sign : List ℕ) (negative : Bool) → IsSign sign negative → (v : ℤ) × IsNumber (sign ++ 48 ∷ []) v
zero_after sign negative is =
    (_, (negative, sign, 48 ∷ [], [], [], (sym (append-nil (sign ++ 48 ∷ []))), is, zero_digits, refl, All-nil IsDigit, (λ e. cc (e)), refl))

dot_after : (sign : List ℕ) (negative : Bool) → IsSign sign negative → (v : ℤ) × IsNumber (sign ++ 46 ∷ 48 ∷ []) v
dot_after sign negative is =
    (_, (negative, sign, [], 46 ∷ 48 ∷ [], 48 ∷ [], (ap (λ x. x ++ 46 ∷ 48 ∷ []) (sym (append-nil sign))), is, All-nil IsDigit, (refl, refl), zero_digits, (λ e. cc (e)), refl))

sign_at : (b : ℕ) (minus plus : Bool) → (b == 45) ≡ minus → (b == 43) ≡ plus → IsSign (if minus || plus then b ∷ [] else []) minus
sign_at b true plus m p = (refl, same_byte b 45 m)
sign_at b false true m p = (refl, same_byte b 43 p)
sign_at b false false m p = refl

sign_is : (t : List ℕ) → IsSign (sign_of t) (is_minus t)
sign_is [] = refl
sign_is (b ∷ t) = sign_at b (b == 45) (b == 43) refl refl

sign_whole : (t : List ℕ) → sign_of t ++ unsigned t ≡ t
sign_whole [] = refl
sign_whole (b ∷ t) = elim (by_test ((b == 45) || (b == 43))) [ inl e ↦ rw e refl | inr e ↦ rw e refl ]

-- the sign is the same before any body; without one, the body begins with no sign
abbrev Unsigned : List ℕ → Type 0
Unsigned u = (unsigned u ≡ u) × (is_minus u ≡ false)

signed_again : (t u : List ℕ) → (sign_of t ≡ [] → Unsigned u) → number_at (sign_of t ++ u) ≡ number_from (is_minus t) u
unfolding number_at
signed_again [] u none = let (a, b) = none refl in rw (b, a) refl
signed_again (c ∷ t) u none = elim (by_test ((c == 45) || (c == 43))) [
  | inl e ↦ rw e (rw e refl)
  | inr e ↦ unsigned_case e (none (rw e refl))
]
  where
    no_minus : ((c == 45) || (c == 43)) ≡ false → (c == 45) ≡ false
    no_minus e = elim (by_test (c == 45)) [ inl h ↦ absurd (cc (e, h)) | inr h ↦ h ]

    unsigned_case : ((c == 45) || (c == 43)) ≡ false → Unsigned u → number_at (sign_of (c ∷ t) ++ u) ≡ number_from (c == 45) u
    unsigned_case e (a, b) = rw e (rw (b, a, no_minus e) refl)

digit_read : (negative : Bool) (b : ℕ) (t : List ℕ) → number_from negative (b ∷ t) ≡ None → is_ascii_digit b ≡ false
digit_read negative b t e = elim (by_test (is_ascii_digit b)) [ inl h ↦ absurd (by_some h) | inr h ↦ h ]
  where
    some : {A : Type 0} (xs ys : List ℕ) (x : A) → xs ≡ b ∷ ys → (if is_empty xs then None else Some x) ≡ None → ⊥
    some [] ys x e f = cc (e)
    some (a ∷ xs) ys x e f = cc (f)

    by_some : is_ascii_digit b ≡ true → ⊥
    by_some h = some (digits (b ∷ t) ++ decimals_at (past_digits (b ∷ t))) (digits t ++ decimals_at (past_digits (b ∷ t))) _ (ap (λ x. x ++ decimals_at (past_digits (b ∷ t))) (digits-yes b t h)) e

decimal_read : (negative : Bool) (b : ℕ) (t : List ℕ) → number_from negative (46 ∷ b ∷ t) ≡ None → is_ascii_digit b ≡ false
decimal_read negative b t e = elim (by_test (is_ascii_digit b)) [ inl h ↦ absurd (by_some h) | inr h ↦ h ]
  where
    some : {A : Type 0} (xs ys : List ℕ) (x : A) → xs ≡ b ∷ ys → (if is_empty xs then None else Some x) ≡ None → ⊥
    some [] ys x e f = cc (e)
    some (a ∷ xs) ys x e f = cc (f)

    by_some : is_ascii_digit b ≡ true → ⊥
    by_some h = some (digits (b ∷ t)) (digits t) _ (digits-yes b t h) e

no_digit : (negative : Bool) (b : ℕ) (t : List ℕ) → is_ascii_digit b ≡ false → (b == 46) ≡ false → number_from negative (b ∷ t) ≡ None
no_digit negative b t d p = rw (d, p) refl

no_decimal : (negative : Bool) (b : ℕ) (t : List ℕ) → is_ascii_digit b ≡ false → number_from negative (46 ∷ b ∷ t) ≡ None
no_decimal negative b t d = rw d refl

-- a text begins with a sign or a body that has none
body_unsigned : (t : List ℕ) → sign_of t ≡ [] → Unsigned (unsigned t)
body_unsigned [] e = (refl, refl)
body_unsigned (c ∷ t) e = elim (by_test ((c == 45) || (c == 43))) [ inl h ↦ absurd (cc (e, signed h)) | inr h ↦ rw h (rw h (refl, no_minus h)) ]
  where
    signed : ((c == 45) || (c == 43)) ≡ true → sign_of (c ∷ t) ≡ c ∷ []
    signed h = rw h refl

    no_minus : ((c == 45) || (c == 43)) ≡ false → (c == 45) ≡ false
    no_minus h = elim (by_test (c == 45)) [ inl k ↦ absurd (cc (h, k)) | inr k ↦ k ]

first_unsigned : (b : ℕ) (t u : List ℕ) → Unsigned (b ∷ t) → Unsigned (b ∷ u)
first_unsigned b t u (a, m) = elim (by_test ((b == 45) || (b == 43))) [ inl h ↦ absurd (shorter h) | inr h ↦ (rw h refl, m) ]
  where
    shorter : ((b == 45) || (b == 43)) ≡ true → ⊥
    shorter h = let e : unsigned (b ∷ t) ≡ t = rw h refl in omega (arith, ap length (sym e ∙ a))

read_body : (t : List ℕ) → number_at t ≡ None → number_from (is_minus t) (unsigned t) ≡ None
unfolding number_at
read_body t e = e

-- after a sign and a dot
pub stuck_at_decimals : (t rest : List ℕ) → number_at t ≡ None → byte_at 46 (unsigned t) ≡ Some rest → StuckIn IsNumber number_at t (length rest)
stuck_at_decimals t rest none dot =
    let body : unsigned t ≡ 46 ∷ rest = byte_found 46 (unsigned t) rest dot in (
      none,
      record {
        front = sign_of t ++ 46 ∷ [];
        back = rest;
        split = sym (sign_whole t) ∙ (ap (λ x. sign_of t ++ x) body ∙ sym (append_assoc (sign_of t) (46 ∷ []) rest));
        left_is = refl;
        more = 48 ∷ [];
        begun = subst (λ x. (v : ℤ) × IsNumber x v) (sym (append_assoc (sign_of t) (46 ∷ []) (48 ∷ []))) (dot_after (sign_of t) (is_minus t) (sign_is t));
        fails = λ b tail e after.
            ap number_at (append_assoc (sign_of t) (46 ∷ []) (b ∷ after))
            ∙ (signed_again t (46 ∷ b ∷ after) (λ n. (refl, refl))
            ∙ no_decimal (is_minus t) b after (decimal_read (is_minus t) b tail (sym (ap (number_from (is_minus t)) (body ∙ ap (λ x. 46 ∷ x) e)) ∙ read_body t none)));
      },
    )

no_dot : (b : ℕ) (t : List ℕ) → byte_at 46 (b ∷ t) ≡ None → (b == 46) ≡ false
no_dot b t e = elim (by_test (b == 46)) [ inl h ↦ absurd (cc (e, there h)) | inr h ↦ h ]
  where
    there : (b == 46) ≡ true → byte_at 46 (b ∷ t) ≡ Some t
    there h = rw h refl

-- after a sign
pub stuck_at_body : (t : List ℕ) → number_at t ≡ None → byte_at 46 (unsigned t) ≡ None → StuckIn IsNumber number_at t (length (unsigned t))
stuck_at_body t none dot = (
  none,
  record {
    front = sign_of t;
    back = unsigned t;
    split = sym (sign_whole t);
    left_is = refl;
    more = 48 ∷ [];
    begun = zero_after (sign_of t) (is_minus t) (sign_is t);
    fails = λ b tail e after.
        signed_again t (b ∷ after) (λ n. first_unsigned b tail after (subst Unsigned e (body_unsigned t n)))
        ∙ no_digit (is_minus t) b after (digit_read (is_minus t) b tail (sym (ap (number_from (is_minus t)) e) ∙ read_body t none))
        (no_dot b tail (sym (ap (byte_at 46) e) ∙ dot));
  },
)

pub zero_number : (v : ℤ) × IsNumber (48 ∷ []) v
zero_number = zero_after [] false refl
