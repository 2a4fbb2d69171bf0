-- Items at the front of a text.
use Rattle.std.proofs.Common.{inl, inr, arith, ◌≡◌, ◌≢◌, ℕ, ◌≤◌, List, [], ◌∷◌, ◌++◌, Bool, true, false, Some, None, refl, sym, ap, subst, ◌∙◌, append_assoc, length}
use Rattle.std.specs.Prelude.{◌==◌}
use Rattle.std.specs.List.{AllPass}
use Rattle.std.specs.Char.{is_ascii_digit}
use Rattle.std.proofs.lemmas.Grind.{common_steps}
use Rattle.std.proofs.lemmas.List.{append-nil, length-append}
use Rattle.std.proofs.lemmas.List.Elements.{All-head}
use Rattle.rules.specs.Numbers.{number_of}
use Rattle.rules.specs.Specification.{Modifier, Quarters, Scaled, Moved, WrittenItem, IsItem, IsDigits, IsModifier, AreModifiers, minus_text}
use Rattle.lengths.specs.Reading.{EndsNumber, digits, past_digits, is_empty}
use Rattle.lengths.proofs.Digits.{IsDigit, by_test, digits_whole, digits_pass, digits-append, past_digits-append}
use Rattle.lengths.proofs.Numbers.{same_byte, chosen_some, not_empty, ends_digits, taken, no_minus}
use Rattle.pagespec.proofs.Letters.{turn_letter}
use Rattle.pagespec.specs.Reading.{modifier_at, modifiers_at, is_minus_first, past_minus, item_with, item_from, item_at}
use Rattle.pagespec.proofs.Modifiers.{Stood, modifiers_found, modifiers_read, modifiers_end, few_modifiers}

-- the text continues neither a modifier nor a number
pub record Closed (rest : List ℕ) : Type 0 where
  pub ends : EndsNumber rest
  pub none : modifier_at rest ≡ None

pub minus_whole : (t : List ℕ) → t ≡ minus_text (is_minus_first t) ++ past_minus t
minus_whole [] = refl
minus_whole (b ∷ t) = elim (by_test (b == 45)) [ inl e ↦ rw e (ap (λ x. x ∷ t) (same_byte b 45 e)) | inr e ↦ rw e refl ]

-- what is read is an item, and the front of the text
pub item_found : (t : List ℕ) (x : WrittenItem × List ℕ) → item_at t ≡ Some x → Stood IsItem t x
unfolding item_at
item_found t x e =
    let u = past_minus t in
    let (some, same) = chosen_some (is_empty (digits u)) (item_with (is_minus_first t) (number_of (digits u)) (modifiers_at (length (past_digits u)) (past_digits u))) x e in
    let (front, m_is, are) = modifiers_found (length (past_digits u)) (past_digits u) in
    let rest : List ℕ = (modifiers_at (length (past_digits u)) (past_digits u)).1 in
    let m : List ℕ = minus_text (is_minus_first t) in
    let t_is : t ≡ (m ++ digits u ++ front) ++ rest =
    minus_whole t ∙ (ap (λ y. m ++ y) (sym (digits_whole u) ∙ ap (λ y. digits u ++ y) m_is)
    ∙ (sym (append_assoc m (digits u) (front ++ rest)) ∙ sym (append_assoc (m ++ digits u) front rest))) in
    subst (Stood IsItem t) same (m ++ digits u ++ front, t_is, (digits u, front, refl, (digits_pass u, not_empty (digits u) some, refl), are))

-- the first byte is no minus
abbrev pub Unsigned : List ℕ → Type 0
Unsigned t = (is_minus_first t ≡ false) × (past_minus t ≡ t)

pub digits_unsigned : (ds t : List ℕ) → AllPass is_ascii_digit ds → ds ≢ [] → Unsigned (ds ++ t)
digits_unsigned [] t h n = absurd (n refl)
digits_unsigned (d ∷ ds) t h n =
    let one : is_ascii_digit d ≡ true = All-head IsDigit d ds h in
    let no : (d == 45) ≡ false = no_minus d (rw one refl) in
    (no, rw no refl)

modifier_unsigned : (m : Modifier) (text rest : List ℕ) → IsModifier text m → Unsigned (text ++ rest)
modifier_unsigned (Quarters n) text rest is =
    let (letter, e, q, h) = turn_letter text n is in
    let no : (letter == 45) ≡ false = elim (by_test (letter == 45)) [ inl e ↦ absurd (grind (arith, common_steps)) | inr e ↦ e ] in
    subst (λ x. Unsigned (x ++ rest)) (sym e) (no, rw no refl)
modifier_unsigned (Scaled v) text rest (number, e, is) = subst (λ x. Unsigned (x ++ rest)) (sym e) (refl, refl)
modifier_unsigned (Moved x y) text rest (first, second, e, is, is_y) = subst (λ x. Unsigned (x ++ rest)) (sym e) (refl, refl)

pub modifiers_unsigned : (ms : List Modifier) (text : List ℕ) → AreModifiers text ms → Unsigned text
modifiers_unsigned [] text e = subst Unsigned (sym e) (refl, refl)
modifiers_unsigned (m ∷ ms) text (front, more, e, is, are) = subst Unsigned (sym e) (modifier_unsigned m front more is)

pub minus_taken : (from_end : Bool) (t : List ℕ) → Unsigned t → (is_minus_first (minus_text from_end ++ t) ≡ from_end) × (past_minus (minus_text from_end ++ t) ≡ t)
minus_taken true t u = (refl, refl)
minus_taken false t u = u

body_read : (i : WrittenItem) (ds ms rest : List ℕ) → IsDigits ds i.page → AreModifiers ms i.modifiers → Closed rest → item_from i.from_end (ds ++ (ms ++ rest)) ≡ Some (i, rest)
body_read i ds ms rest (pass, some, page) are closed =
    let ends = ends_digits (ms ++ rest) (modifiers_end i.modifiers ms rest are closed.ends) in
    let first : digits (ds ++ (ms ++ rest)) ≡ ds = digits-append ds (ms ++ rest) pass ∙ (ap (λ x. ds ++ x) ends.0 ∙ append-nil ds) in
    let past : past_digits (ds ++ (ms ++ rest)) ≡ ms ++ rest = past_digits-append ds (ms ++ rest) pass ∙ ends.1 in
    let many : length i.modifiers ≤ length (ms ++ rest) = omega (arith, few_modifiers i.modifiers ms are, length-append ms rest) in
    taken (digits (ds ++ (ms ++ rest))) _ (λ e. some (sym first ∙ e))
    ∙ (ap (λ x. Some (item_with i.from_end (number_of x) (modifiers_at (length (past_digits (ds ++ (ms ++ rest)))) (past_digits (ds ++ (ms ++ rest)))))) first
    ∙ (ap (λ x. Some (item_with i.from_end (number_of ds) (modifiers_at (length x) x))) past
    ∙ (ap (λ x. Some (item_with i.from_end (number_of ds) x)) (modifiers_read (length (ms ++ rest)) i.modifiers ms rest are closed.ends closed.none many)
    ∙ ap (λ n. Some (item_with i.from_end n (i.modifiers, rest))) (sym page))))

pub item_read : (text rest : List ℕ) (i : WrittenItem) → IsItem text i → Closed rest → item_at (text ++ rest) ≡ Some (i, rest)
unfolding item_at
item_read text rest i (ds, ms, e, is, are) closed =
    let minus = minus_taken i.from_end (ds ++ (ms ++ rest)) (digits_unsigned ds (ms ++ rest) is.0 is.1) in
    ap item_at (ap (λ x. x ++ rest) e ∙ (append_assoc (minus_text i.from_end ++ ds) ms rest ∙ append_assoc (minus_text i.from_end) ds (ms ++ rest)))
    ∙ (ap (λ x. item_from x (past_minus (minus_text i.from_end ++ (ds ++ (ms ++ rest))))) minus.0
    ∙ (ap (λ x. item_from i.from_end x) minus.1 ∙ body_read i ds ms rest is are closed))
