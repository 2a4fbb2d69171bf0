-- Rows of digits at the front of a text.
use Rattle.std.proofs.Common.{inl, inr, ◌⊎◌, ◌≡◌, ℕ, List, [], ◌∷◌, ◌++◌, Bool, true, false, refl, sym, ap, subst, ◌∙◌}
use Rattle.std.specs.List.{AllPass}
use Rattle.std.specs.Char.{is_ascii_digit}
use Rattle.std.proofs.lemmas.List.Elements.{All-nil, All-cons, All-head, All-tail}
use Rattle.lengths.specs.Reading.{digits, past_digits}

abbrev pub IsDigit : ℕ → Type 0
IsDigit b = is_ascii_digit b ≡ true

-- a test is true or false
pub by_test : (b : Bool) → (b ≡ true) ⊎ (b ≡ false)
by_test true = inl refl
by_test false = inr refl

pub digits-yes : (b : ℕ) (t : List ℕ) → is_ascii_digit b ≡ true → digits (b ∷ t) ≡ b ∷ digits t
digits-yes b t e = rw e refl

pub past_digits-yes : (b : ℕ) (t : List ℕ) → is_ascii_digit b ≡ true → past_digits (b ∷ t) ≡ past_digits t
past_digits-yes b t e = rw e refl

pub digits-no : (b : ℕ) (t : List ℕ) → is_ascii_digit b ≡ false → digits (b ∷ t) ≡ []
digits-no b t e = rw e refl

pub past_digits-no : (b : ℕ) (t : List ℕ) → is_ascii_digit b ≡ false → past_digits (b ∷ t) ≡ b ∷ t
past_digits-no b t e = rw e refl

pub digits_whole : (t : List ℕ) → digits t ++ past_digits t ≡ t
digits_whole [] = refl
digits_whole (b ∷ t) = elim (by_test (is_ascii_digit b)) [
  | inl e ↦ ap (λ xs. xs ++ past_digits (b ∷ t)) (digits-yes b t e) ∙ ap (λ xs. (b ∷ digits t) ++ xs) (past_digits-yes b t e) ∙ ap (λ xs. b ∷ xs) (digits_whole t)
  | inr e ↦ ap (λ xs. xs ++ past_digits (b ∷ t)) (digits-no b t e) ∙ past_digits-no b t e
]

pub digits_pass : (t : List ℕ) → AllPass is_ascii_digit (digits t)
digits_pass [] = All-nil IsDigit
digits_pass (b ∷ t) = elim (by_test (is_ascii_digit b)) [ inl e ↦ subst (λ ds. AllPass is_ascii_digit ds) (sym (digits-yes b t e)) (All-cons IsDigit b (digits t) e (digits_pass t)) | inr e ↦ subst (λ ds. AllPass is_ascii_digit ds) (sym (digits-no b t e)) (All-nil IsDigit) ]

pub digits-append : (ds t : List ℕ) → AllPass is_ascii_digit ds → digits (ds ++ t) ≡ ds ++ digits t
digits-append [] t h = refl
digits-append (d ∷ ds) t h = digits-yes d (ds ++ t) (All-head IsDigit d ds h) ∙ ap (λ xs. d ∷ xs) (digits-append ds t (All-tail IsDigit d ds h))

pub past_digits-append : (ds t : List ℕ) → AllPass is_ascii_digit ds → past_digits (ds ++ t) ≡ past_digits t
past_digits-append [] t h = refl
past_digits-append (d ∷ ds) t h = past_digits-yes d (ds ++ t) (All-head IsDigit d ds h) ∙ past_digits-append ds t (All-tail IsDigit d ds h)
