-- Numbers at the front of a text.
use Rattle.std.proofs.Common.{inl, inr, arith, ◌≡◌, ◌≢◌, ℕ, ◌+◌, ◌-◌, ◌≤◌, List, [], ◌∷◌, ◌++◌, Bool, true, false, Some, None, refl, sym, ap, subst, ◌∙◌, append_assoc, length, take, drop}
use Rattle.std.specs.Prelude.{◌==◌, ◌||◌, ℤ, if◌then◌else◌}
use Rattle.std.specs.List.{AllPass}
use Rattle.std.specs.Char.{is_ascii_digit}
use Rattle.std.proofs.lemmas.List.{take_at, take-append-drop, length-drop}
use Rattle.std.proofs.lemmas.Grind.{common_steps}
use Rattle.std.proofs.lemmas.List.{append-nil, length-append}
use Rattle.std.proofs.lemmas.List.Elements.{All-nil, All-head}
use Rattle.rules.specs.Numbers.{IsNumber, IsSign, IsFraction, IsLongestNumber}
use Rattle.lengths.specs.Reading.{digits, past_digits, is_minus, unsigned, decimals_at, past_decimals, decimal_value, is_empty, number_from, number_at, EndsNumber}
use Rattle.lengths.proofs.Digits.{IsDigit, by_test, digits_whole, digits_pass, digits-append, past_digits-append}

abbrev pub sign_of : List ℕ → List ℕ
sign_of [] = []
sign_of (b ∷ text) = if (b == 45) || (b == 43) then b ∷ [] else []

abbrev pub point_of : List ℕ → List ℕ
point_of [] = []
point_of (b ∷ text) = if b == 46 then b ∷ digits text else []

pub same_byte : (b c : ℕ) → (b == c) ≡ true → b ≡ c
same_byte b c e = grind (arith, common_steps)

sign_whole : (t : List ℕ) → sign_of t ++ unsigned t ≡ t
sign_whole [] = refl
sign_whole (b ∷ t) = elim (by_test ((b == 45) || (b == 43))) [ inl e ↦ rw e refl | inr e ↦ rw e refl ]

sign_at : (b : ℕ) → (minus plus : Bool) → (b == 45) ≡ minus → (b == 43) ≡ plus → IsSign (if minus || plus then b ∷ [] else []) minus
sign_at b true plus m p = (refl, same_byte b 45 m)
sign_at b false true m p = (refl, same_byte b 43 p)
sign_at b false false m p = refl

sign_is : (t : List ℕ) → IsSign (sign_of t) (is_minus t)
sign_is [] = refl
sign_is (b ∷ t) = sign_at b (b == 45) (b == 43) refl refl

point_whole : (t : List ℕ) → point_of t ++ past_decimals t ≡ t
point_whole [] = refl
point_whole (b ∷ t) = elim (by_test (b == 46)) [ inl e ↦ rw e (ap (λ xs. b ∷ xs) (digits_whole t)) | inr e ↦ rw e refl ]

point_is : (t : List ℕ) → IsFraction (point_of t) (decimals_at t)
point_is [] = refl
point_is (b ∷ t) = elim (by_test (b == 46)) [ inl e ↦ rw e (same_byte b 46 e, refl) | inr e ↦ rw e refl ]

pub decimals_pass : (t : List ℕ) → AllPass is_ascii_digit (decimals_at t)
decimals_pass [] = All-nil IsDigit
decimals_pass (b ∷ t) = elim (by_test (b == 46)) [ inl e ↦ rw e (digits_pass t) | inr e ↦ rw e (All-nil IsDigit) ]

-- the result of an if
pub chosen_some : {A : Type 0} (b : Bool) (x y : A) → (if b then None else Some x) ≡ Some y → (b ≡ false) × (x ≡ y)
chosen_some true x y e = absurd (cc)
chosen_some false x y e = (refl, cc)

pub not_empty : (xs : List ℕ) → is_empty xs ≡ false → xs ≢ []
not_empty [] e h = cc
not_empty (x ∷ xs) e h = cc

-- four pieces, and three of them
regroup : (a b c d : List ℕ) → a ++ (b ++ (c ++ d)) ≡ (a ++ b ++ c) ++ d
regroup a b c d = sym (append_assoc a b (c ++ d)) ∙ sym (append_assoc (a ++ b) c d)

-- what is read is a number, and the front of the text
pub number_found : (t rest : List ℕ) (v : ℤ) → number_at t ≡ Some (v, rest) → (front : List ℕ) × (t ≡ front ++ rest) × IsNumber front v
unfolding number_at
number_found t rest v e =
    let u = unsigned t in
    let h = chosen_some (is_empty (digits u ++ decimals_at (past_digits u))) (decimal_value (is_minus t) (digits u) (decimals_at (past_digits u)), past_decimals (past_digits u)) (v, rest) e in
    let behind : past_decimals (past_digits u) ≡ rest = ap (λ x. x.1) h.1 in
    let whole : t ≡ (sign_of t ++ digits u ++ point_of (past_digits u)) ++ rest =
    sym (sign_whole t) ∙ (ap (λ r. sign_of t ++ r) (sym (digits_whole u)) ∙ (ap (λ r. sign_of t ++ (digits u ++ r)) (sym (point_whole (past_digits u)))
    ∙ (regroup (sign_of t) (digits u) (point_of (past_digits u)) (past_decimals (past_digits u)) ∙ ap (λ r. (sign_of t ++ digits u ++ point_of (past_digits u)) ++ r) behind))) in (
      sign_of t ++ digits u ++ point_of (past_digits u),
      whole,
      (is_minus t, sign_of t, digits u, point_of (past_digits u), decimals_at (past_digits u), refl, sign_is t, digits_pass u, point_is (past_digits u), decimals_pass (past_digits u), not_empty _ h.0, sym (ap (λ x. x.0) h.1)),
    )

-- a number text is read whole, and reading goes on into what follows if that continues it
unsigned-sign : (sign t : List ℕ) (negative : Bool) → IsSign sign negative → unsigned t ≡ t → is_minus t ≡ false → (unsigned (sign ++ t) ≡ t) × (is_minus (sign ++ t) ≡ negative)
unsigned-sign [] t negative h u m = (u, m ∙ sym h)
unsigned-sign (b ∷ []) t true h u m = (ap (λ c. unsigned (c ∷ t)) h.1, ap (λ c. is_minus (c ∷ t)) h.1)
unsigned-sign (b ∷ []) t false h u m = (ap (λ c. unsigned (c ∷ t)) h.1, ap (λ c. is_minus (c ∷ t)) h.1)
unsigned-sign (b ∷ c ∷ bs) t negative h u m = absurd (cc (h.0))

-- a digit or a dot comes first, and so no sign
abbrev starts : List ℕ → Bool
starts [] = false
starts (b ∷ t) = is_ascii_digit b || (b == 46)

pub no_minus : (b : ℕ) → (is_ascii_digit b || (b == 46)) ≡ true → (b == 45) ≡ false
no_minus b e = grind (arith, common_steps)

no_plus : (b : ℕ) → (is_ascii_digit b || (b == 46)) ≡ true → (b == 43) ≡ false
no_plus b e = grind (arith, common_steps)

no_sign : (t : List ℕ) → starts t ≡ true → (unsigned t ≡ t) × (is_minus t ≡ false)
no_sign [] e = absurd (cc (e))
no_sign (b ∷ t) e = (rw (no_minus b e, no_plus b e) refl, no_minus b e)

body_starts : (whole point decimals rest : List ℕ) → AllPass is_ascii_digit whole → IsFraction point decimals → whole ++ decimals ≢ [] → starts (whole ++ (point ++ rest)) ≡ true
body_starts [] [] decimals rest w f n = absurd (n f)
body_starts [] (b ∷ p) decimals rest w f n = rw f.0 refl
body_starts (d ∷ ds) point decimals rest w f n = let h : is_ascii_digit d ≡ true = All-head IsDigit d ds w in rw h refl

pub taken : {A : Type 0} (xs : List ℕ) (x : A) → xs ≢ [] → (if is_empty xs then None else Some x) ≡ Some x
taken [] x n = absurd (n refl)
taken (y ∷ xs) x n = refl

pub from_parts : (negative : Bool) (u whole decimals rest : List ℕ) → digits u ≡ whole → decimals_at (past_digits u) ≡ decimals → past_decimals (past_digits u) ≡ rest
    → whole ++ decimals ≢ [] → number_from negative u ≡ Some (decimal_value negative whole decimals, rest)
from_parts negative u whole decimals rest w d r n =
    taken (digits u ++ decimals_at (past_digits u)) _ (λ e. n (sym (ap (λ x. x ++ decimals_at (past_digits u)) w ∙ ap (λ x. whole ++ x) d) ∙ e))
    ∙ (ap (λ x. Some (decimal_value negative x (decimals_at (past_digits u)), past_decimals (past_digits u))) w
    ∙ (ap (λ x. Some (decimal_value negative whole x, past_decimals (past_digits u))) d ∙ ap (λ x. Some (decimal_value negative whole decimals, x)) r))

pub ends_digits : (t : List ℕ) → EndsNumber t → (digits t ≡ []) × (past_digits t ≡ t) × (decimals_at t ≡ []) × (past_decimals t ≡ t)
ends_digits [] h = (refl, refl, refl, refl)
ends_digits (b ∷ t) h = (rw h.0 refl, rw h.0 refl, rw h.1 refl, rw h.1 refl)

-- the body of a number, where it ends
body_read : (negative : Bool) (whole point decimals rest : List ℕ) → AllPass is_ascii_digit whole → IsFraction point decimals → AllPass is_ascii_digit decimals → whole ++ decimals ≢ [] → EndsNumber rest
    → number_from negative (whole ++ (point ++ rest)) ≡ Some (decimal_value negative whole decimals, rest)
body_read negative whole [] decimals rest w f d n ends =
    let e = ends_digits rest ends in
    let past : past_digits (whole ++ rest) ≡ rest = past_digits-append whole rest w ∙ e.1 in
    from_parts negative (whole ++ rest) whole decimals rest (digits-append whole rest w ∙ (ap (λ x. whole ++ x) e.0 ∙ append-nil whole))
    (ap decimals_at past ∙ (e.2 ∙ sym f)) (ap past_decimals past ∙ e.3) n
body_read negative whole (b ∷ p) decimals rest w f d n ends =
    let e = ends_digits rest ends in
    let same : b ∷ (p ++ rest) ≡ 46 ∷ (decimals ++ rest) = ap (λ x. x ∷ (p ++ rest)) f.0 ∙ ap (λ x. 46 ∷ (x ++ rest)) f.1 in
    let past : past_digits (whole ++ (b ∷ (p ++ rest))) ≡ 46 ∷ (decimals ++ rest) = past_digits-append whole (b ∷ (p ++ rest)) w ∙ ap past_digits same in
    from_parts negative (whole ++ (b ∷ (p ++ rest))) whole decimals rest (digits-append whole (b ∷ (p ++ rest)) w ∙ (ap (λ x. whole ++ digits x) same ∙ append-nil whole))
    (ap decimals_at past ∙ (digits-append decimals rest d ∙ (ap (λ x. decimals ++ x) e.0 ∙ append-nil decimals))) (ap past_decimals past ∙ (past_digits-append decimals rest d ∙ e.1)) n

-- a number text is read whole if what follows doesn't continue it
pub number_read : (text rest : List ℕ) (v : ℤ) → IsNumber text v → EndsNumber rest → number_at (text ++ rest) ≡ Some (v, rest)
unfolding number_at
number_read text rest v (negative, sign, whole, point, decimals, e, s, w, f, d, n, value) ends =
    let body : starts (whole ++ (point ++ rest)) ≡ true = body_starts whole point decimals rest w f n in
    let open_ = no_sign (whole ++ (point ++ rest)) body in
    let u = unsigned-sign sign (whole ++ (point ++ rest)) negative s open_.0 open_.1 in
    let text_is : text ++ rest ≡ sign ++ (whole ++ (point ++ rest)) = ap (λ x. x ++ rest) e ∙ sym (regroup sign whole point rest) in
    ap (λ x. number_from (is_minus x) (unsigned x)) text_is
    ∙ (ap (λ x. number_from x (unsigned (sign ++ (whole ++ (point ++ rest))))) u.1
    ∙ (ap (λ x. number_from negative x) u.0
    ∙ (body_read negative whole point decimals rest w f d n ends ∙ ap (λ x. Some (x, rest)) (sym value))))

pub some_same : {A : Type 0} (x y : A) → Some x ≡ Some y → x ≡ y
some_same x y e = cc

length-past_digits : (t : List ℕ) → length (past_digits t) ≤ length t
length-past_digits t = omega (arith, length-append (digits t) (past_digits t), ap length (digits_whole t))

length-past_decimals : (t : List ℕ) → length (past_decimals t) ≤ length t
length-past_decimals t = omega (arith, length-append (point_of t) (past_decimals t), ap length (point_whole t))

not_nil_append : (xs ys : List ℕ) → xs ≢ [] → xs ++ ys ≢ []
not_nil_append [] ys n = absurd (n refl)
not_nil_append (x ∷ xs) ys n = λ e. cc (e)

-- some number is read, and it takes all bytes of this one
abbrev Reaches : Bool → List ℕ → List ℕ → Type 0
Reaches negative u rest = (v : ℤ) × (r : List ℕ) × (number_from negative u ≡ Some (v, r)) × (length r ≤ length rest)

body_reaches : (negative : Bool) (whole point decimals rest : List ℕ) → AllPass is_ascii_digit whole → IsFraction point decimals → AllPass is_ascii_digit decimals → whole ++ decimals ≢ []
    → Reaches negative (whole ++ (point ++ rest)) rest
body_reaches negative whole [] decimals rest w f d n =
    let past : past_digits (whole ++ rest) ≡ past_digits rest = past_digits-append whole rest w in
    let some : whole ≢ [] = λ e. n (ap (λ x. x ++ decimals) e ∙ f) in (
      _,
      _,
      from_parts negative (whole ++ rest) (whole ++ digits rest) (decimals_at (past_digits rest)) (past_decimals (past_digits rest)) (digits-append whole rest w)
          (ap decimals_at past) (ap past_decimals past) (not_nil_append _ _ (not_nil_append whole (digits rest) some)),
      omega (arith, length-past_digits rest, length-past_decimals (past_digits rest)),
    )
body_reaches negative whole (b ∷ p) decimals rest w f d n =
    let same : b ∷ (p ++ rest) ≡ 46 ∷ (decimals ++ rest) = ap (λ x. x ∷ (p ++ rest)) f.0 ∙ ap (λ x. 46 ∷ (x ++ rest)) f.1 in
    let past : past_digits (whole ++ (b ∷ (p ++ rest))) ≡ 46 ∷ (decimals ++ rest) = past_digits-append whole (b ∷ (p ++ rest)) w ∙ ap past_digits same in (
      _,
      _,
      from_parts negative (whole ++ (b ∷ (p ++ rest))) whole (decimals ++ digits rest) (past_digits rest) (digits-append whole (b ∷ (p ++ rest)) w ∙ (ap (λ x. whole ++ digits x) same ∙ append-nil whole))
          (ap decimals_at past ∙ digits-append decimals rest d) (ap past_decimals past ∙ past_digits-append decimals rest d)
          (λ e. not_nil_append (whole ++ decimals) (digits rest) n (append_assoc whole decimals (digits rest) ∙ e)),
      length-past_digits rest,
    )

-- where a text begins with a number text, one at least as long is read
pub number_reaches : (text rest : List ℕ) (v : ℤ) → IsNumber text v → (w : ℤ) × (r : List ℕ) × (number_at (text ++ rest) ≡ Some (w, r)) × (length r ≤ length rest)
unfolding number_at
number_reaches text rest v (negative, sign, whole, point, decimals, e, s, w, f, d, n, value) =
    let body : starts (whole ++ (point ++ rest)) ≡ true = body_starts whole point decimals rest w f n in
    let open_ = no_sign (whole ++ (point ++ rest)) body in
    let u = unsigned-sign sign (whole ++ (point ++ rest)) negative s open_.0 open_.1 in
    let text_is : text ++ rest ≡ sign ++ (whole ++ (point ++ rest)) = ap (λ x. x ++ rest) e ∙ sym (regroup sign whole point rest) in
    let found = body_reaches negative whole point decimals rest w f d n in (
      found.0,
      found.1,
      (ap (λ x. number_from (is_minus x) (unsigned x)) text_is
          ∙ (ap (λ x. number_from x (unsigned (sign ++ (whole ++ (point ++ rest))))) u.1
          ∙ (ap (λ x. number_from negative x) u.0 ∙ found.2))),
      found.3,
    )

-- what is read is the longest number
pub number_longest : (t rest : List ℕ) (v : ℤ) → number_at t ≡ Some (v, rest) → (length rest ≤ length t) × IsLongestNumber t (length t - length rest) v
number_longest t rest v e =
    let (front, whole, is) = number_found t rest v e in
    let long : length t ≡ length front + length rest = ap length whole ∙ length-append front rest in
    let first : take (length t - length rest) t ≡ front = ap (λ x. take (length t - length rest) x) whole ∙ take_at front rest _ (omega (arith, long)) in (
      omega (arith, long),
      record {
        within = omega arith;
        number = subst (λ x. IsNumber x v) (sym first) is;
        longest = λ k other more within other_is.
            let (w, r, found, left) = number_reaches (take k t) (drop k t) other other_is in
            let again : number_at t ≡ Some (w, r) = ap number_at (sym (take-append-drop k t)) ∙ found in
            let same : r ≡ rest = ap (λ p. p.1) (some_same (w, r) (v, rest) (sym again ∙ e)) in
            omega (arith, long, ap length same, left, length-drop k t);
      },
    )

-- where none is read, the text begins with none
pub no_number : (t : List ℕ) → number_at t ≡ None → (k : ℕ) (v : ℤ) → IsNumber (take k t) v → ⊥
no_number t e k v is =
    let (w, r, found, left) = number_reaches (take k t) (drop k t) v is in
    let again : number_at t ≡ Some (w, r) = ap number_at (sym (take-append-drop k t)) ∙ found in
    cc
