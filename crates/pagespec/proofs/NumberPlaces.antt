-- A number is read the same whatever follows the byte after it.
use Rattle.std.proofs.Common.{inl, inr, ◌≡◌, ◌≢◌, ℕ, List, [], ◌∷◌, ◌++◌, Bool, true, false, Some, None, refl, sym, ap, subst, ◌∙◌, append_assoc, append-nil, take}
use Rattle.std.specs.Prelude.{◌==◌, ◌||◌, ℤ, if◌then◌else◌}
use Rattle.std.specs.Char.{is_ascii_digit}
use Rattle.std.proofs.lemmas.List.{append_cancel_right}
use Rattle.lengths.specs.Reading.{digits, past_digits, decimals_at, past_decimals, decimal_value, is_empty, number_from, number_at}
use Rattle.lengths.proofs.Digits.{by_test, digits-yes, digits-no, past_digits-yes, past_digits-no, digits_whole, digits_pass, digits-append, past_digits-append}
use Rattle.lengths.proofs.Numbers.{same_byte, chosen_some, not_empty, from_parts, point_of}
use Rattle.pagespec.specs.Reading.{byte_at}

-- both begin with the same byte, or both are empty
abbrev pub Alike : List ℕ → List ℕ → Type 0
Alike t u = take 1 u ≡ take 1 t

pub alike_heads : (front t u : List ℕ) (b : ℕ) → Alike (front ++ b ∷ t) (front ++ b ∷ u)
alike_heads [] t u b = refl
alike_heads (x ∷ front) t u b = refl

pub head_same : (a b : ℕ) → b ∷ [] ≡ a ∷ [] → a ≡ b
head_same a b e = cc (e)

none_chosen : {A : Type 0} (b : Bool) (x : A) → (if b then Some x else None) ≡ None → b ≡ false
none_chosen true x e = absurd (cc (e))
none_chosen false x e = refl

-- a byte that isn't there
pub byte_alike : (c : ℕ) (t u : List ℕ) → Alike t u → byte_at c t ≡ None → byte_at c u ≡ None
byte_alike c [] [] l e = refl
byte_alike c [] (b ∷ u) l e = absurd (cc (l))
byte_alike c (a ∷ t) [] l e = absurd (cc (l))
byte_alike c (a ∷ t) (b ∷ u) l e =
    let no : (b == c) ≡ false = ap (λ x. x == c) (sym (head_same a b l)) ∙ none_chosen (a == c) t e in
    rw no refl

digits_none : (b : ℕ) (t : List ℕ) → digits (b ∷ t) ≡ [] → is_ascii_digit b ≡ false
digits_none b t e = elim (by_test (is_ascii_digit b)) [ inl h ↦ absurd (cc (e, digits-yes b t h)) | inr h ↦ h ]

pub digits_alike : (t u : List ℕ) → Alike t u → digits t ≡ [] → (digits u ≡ []) × (past_digits u ≡ u)
digits_alike [] [] l e = (refl, refl)
digits_alike [] (b ∷ u) l e = absurd (cc (l))
digits_alike (a ∷ t) [] l e = absurd (cc (l))
digits_alike (a ∷ t) (b ∷ u) l e =
    let no : is_ascii_digit b ≡ false = ap is_ascii_digit (sym (head_same a b l)) ∙ digits_none a t e in
    (digits-no b u no, past_digits-no b u no)

pub past_none : (t : List ℕ) → digits (past_digits t) ≡ []
past_none [] = refl
past_none (b ∷ t) = elim (by_test (is_ascii_digit b)) [
  | inl h ↦ ap digits (past_digits-yes b t h) ∙ past_none t
  | inr h ↦ ap digits (past_digits-no b t h) ∙ digits-no b t h
]

-- the dot and the decimals, with another rest
abbrev Decimals : List ℕ → List ℕ → Type 0
Decimals t r = (digits (point_of t ++ r) ≡ []) × (past_digits (point_of t ++ r) ≡ point_of t ++ r)
    × (decimals_at (point_of t ++ r) ≡ decimals_at t) × (past_decimals (point_of t ++ r) ≡ r)

dot_decimals : (t r : List ℕ) → Alike (past_digits t) r → Decimals (46 ∷ t) r
dot_decimals t r l =
    let (none, past) = digits_alike (past_digits t) r l (past_none t) in (
      refl,
      refl,
      digits-append (digits t) r (digits_pass t) ∙ (ap (λ x. digits t ++ x) none ∙ append-nil (digits t)),
      past_digits-append (digits t) r (digits_pass t) ∙ past,
    )

no_decimals : (b c : ℕ) (t r : List ℕ) → c ≡ b → (b == 46) ≡ false → is_ascii_digit b ≡ false → Decimals (b ∷ t) (c ∷ r)
no_decimals b c t r same dotless none =
    let dot : (c == 46) ≡ false = ap (λ x. x == 46) same ∙ dotless in
    let digit : is_ascii_digit c ≡ false = ap is_ascii_digit same ∙ none in
    rw (dotless, dot, digit) (refl, refl, refl, refl)

decimals_alike : (t r : List ℕ) → digits t ≡ [] → Alike (past_decimals t) r → Decimals t r
decimals_alike [] [] none l = (refl, refl, refl, refl)
decimals_alike [] (c ∷ r) none l = absurd (cc (l))
decimals_alike (b ∷ t) r none l = elim (by_test (b == 46)) [
  | inl e ↦ (
      let dot : b ≡ 46 = same_byte b 46 e in
      subst (λ x. Decimals (x ∷ t) r) (sym dot) (dot_decimals t r (subst (λ x. Alike (past_decimals (x ∷ t)) r) dot l))
      )
  | inr e ↦ other r (l ∙ ap (take 1) (past e)) e
]
  where
    past : (b == 46) ≡ false → past_decimals (b ∷ t) ≡ b ∷ t
    past e = rw e refl

    other : (r : List ℕ) → Alike (b ∷ t) r → (b == 46) ≡ false → Decimals (b ∷ t) r
    other [] l e = absurd (cc (l))
    other (c ∷ r) l e = no_decimals b c t r (sym (head_same b c l)) e (digits_none b t none)

-- a number without its sign
abbrev body_of : List ℕ → List ℕ
body_of u = digits u ++ point_of (past_digits u)

point_whole : (t : List ℕ) → point_of t ++ past_decimals t ≡ t
point_whole [] = refl
point_whole (b ∷ t) = elim (by_test (b == 46)) [ inl e ↦ rw e (ap (λ xs. b ∷ xs) (digits_whole t)) | inr e ↦ rw e refl ]

no_body : (t : List ℕ) → point_of t ≡ [] → decimals_at t ≡ []
no_body [] e = refl
no_body (b ∷ t) e = elim (by_test (b == 46)) [ inl h ↦ absurd (cc (e, point h)) | inr h ↦ rw h refl ]
  where
    point : (b == 46) ≡ true → point_of (b ∷ t) ≡ b ∷ digits t
    point h = rw h refl

none_left : (xs ys : List ℕ) → xs ++ ys ≡ [] → (xs ≡ []) × (ys ≡ [])
none_left [] ys e = (refl, e)
none_left (x ∷ xs) ys e = absurd (cc (e))

record Body (negative : Bool) (u rest : List ℕ) (v : ℤ) : Type 0 where
  whole : body_of u ++ rest ≡ u
  some : body_of u ≢ []
  read : (r : List ℕ) → Alike rest r → number_from negative (body_of u ++ r) ≡ Some (v, r)

body_read : (negative : Bool) (u rest : List ℕ) (v : ℤ) → number_from negative u ≡ Some (v, rest) → Body negative u rest v
body_read negative u rest v e =
    let (some, same) = chosen_some (is_empty (digits u ++ decimals_at (past_digits u))) (decimal_value negative (digits u) (decimals_at (past_digits u)), past_decimals (past_digits u)) (v, rest) e in
    let behind : past_decimals (past_digits u) ≡ rest = ap (λ x. x.1) same in
    let ds = digits u in
    let pt = point_of (past_digits u) in
    let full : ds ++ decimals_at (past_digits u) ≢ [] = not_empty _ some in
    record {
      whole = append_assoc ds pt rest ∙ (ap (λ x. ds ++ (pt ++ x)) (sym behind) ∙ (ap (λ x. ds ++ x) (point_whole (past_digits u)) ∙ digits_whole u));
      some = λ n. let (a, b) = none_left ds pt n in full (ap (λ x. x ++ decimals_at (past_digits u)) a ∙ no_body (past_digits u) b);
      read = λ r l.
          let d = decimals_alike (past_digits u) r (past_none u) (subst (λ x. Alike x r) (sym behind) l) in
          let first : digits (body_of u ++ r) ≡ ds = ap digits (append_assoc ds pt r) ∙ (digits-append ds (pt ++ r) (digits_pass u) ∙ (ap (λ x. ds ++ x) d.0 ∙ append-nil ds)) in
          let past : past_digits (body_of u ++ r) ≡ pt ++ r = ap past_digits (append_assoc ds pt r) ∙ (past_digits-append ds (pt ++ r) (digits_pass u) ∙ d.1) in
          from_parts negative (body_of u ++ r) ds (decimals_at (past_digits u)) r first (ap decimals_at past ∙ d.2) (ap past_decimals past ∙ d.3) full
          ∙ ap (λ x. Some (x, r)) (ap (λ x. x.0) same);
    }

signed_at : (c : ℕ) (t : List ℕ) → ((c == 45) || (c == 43)) ≡ true → number_at (c ∷ t) ≡ number_from (c == 45) t
unfolding number_at
signed_at c t e = rw e refl

unsigned_at : (c : ℕ) (t : List ℕ) → ((c == 45) || (c == 43)) ≡ false → number_at (c ∷ t) ≡ number_from (c == 45) (c ∷ t)
unfolding number_at
unsigned_at c t e = rw e refl

no_number : number_at [] ≡ None
unfolding number_at
no_number = refl

-- a body that begins with this byte
begun_at : (body r rest t : List ℕ) (c : ℕ) → body ≢ [] → body ++ rest ≡ c ∷ t → ((c == 45) || (c == 43)) ≡ false → number_at (body ++ r) ≡ number_from (c == 45) (body ++ r)
begun_at [] r rest t c n e signless = absurd (n refl)
begun_at (d ∷ body) r rest t c n e signless =
    let same : d ≡ c = cc (e) in
    subst (λ x. number_at (x ∷ (body ++ r)) ≡ number_from (c == 45) (x ∷ (body ++ r))) (sym same) (unsigned_at c (body ++ r) signless)

-- the same number is read before another rest that begins with the same byte
pub number_alike : (t rest front r : List ℕ) (v : ℤ) → number_at t ≡ Some (v, rest) → t ≡ front ++ rest → Alike rest r → number_at (front ++ r) ≡ Some (v, r)
number_alike [] rest front r v e split l = absurd (cc (e, no_number))
number_alike (c ∷ t) rest front r v e split l = elim (by_test ((c == 45) || (c == 43))) [
  | inl h ↦ (
      let body = body_read (c == 45) t rest v (sym (signed_at c t h) ∙ e) in
      let same : c ∷ body_of t ≡ front = append_cancel_right (c ∷ body_of t) front rest (ap (λ x. c ∷ x) body.whole ∙ split) in
      ap (λ x. number_at (x ++ r)) (sym same) ∙ (signed_at c (body_of t ++ r) h ∙ body.read r l)
      )
  | inr h ↦ (
      let body = body_read (c == 45) (c ∷ t) rest v (sym (unsigned_at c t h) ∙ e) in
      let same : body_of (c ∷ t) ≡ front = append_cancel_right (body_of (c ∷ t)) front rest (body.whole ∙ split) in
      ap (λ x. number_at (x ++ r)) (sym same) ∙ (begun_at (body_of (c ∷ t)) r rest t c body.some body.whole h ∙ body.read r l)
      )
]
