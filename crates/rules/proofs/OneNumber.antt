-- A number is determined by its text if neither a digit nor a dot follows.
use Rattle.std.proofs.Common.{◌≡◌, ℕ, List, [], ◌∷◌, ◌++◌, Bool, true, false, not, ◌&&◌, refl, sym, subst, true≢false, ◌∙◌, append_assoc}
use Rattle.std.specs.Prelude.{ℤ, ◌==◌}
use Rattle.std.specs.List.{AllPass}
use Rattle.std.specs.Char.{is_ascii_digit}
use Rattle.rules.specs.Numbers.{IsNumber, IsFraction}
use Rattle.rules.proofs.OneValue.{ends_digits, same_digits, same_sign, begins_unsigned, rest_begins, same_value, same_tail, same_cons}

-- the list begins with neither a digit nor a dot
abbrev pub ends_number : List ℕ → Bool
ends_number [] = true
ends_number (b ∷ bs) = not (is_ascii_digit b) && not (b == 46)

both_first : (a b : Bool) → a && b ≡ true → a ≡ true
both_first true b e = refl
both_first false b e = e

pub number_ends_digits : (r : List ℕ) → ends_number r ≡ true → ends_digits r ≡ true
number_ends_digits [] e = refl
number_ends_digits (b ∷ r) e = both_first (not (is_ascii_digit b)) (not (b == 46)) e

-- what follows a whole part ends its digits
fraction_tail_ends : (p d r : List ℕ) → IsFraction p d → ends_number r ≡ true → ends_digits (p ++ r) ≡ true
fraction_tail_ends [] d r f e = number_ends_digits r e
fraction_tail_ends (x ∷ p) d r (f, g) e = rw f refl

no_dot : (x : ℕ) (p r : List ℕ) → x ≡ 46 → r ≡ x ∷ p → ends_number r ≡ true → ⊥
no_dot x p r e f u = true≢false (sym (subst (λ z. ends_number (z ∷ p) ≡ true) e (subst (λ z. ends_number z ≡ true) f u)))

-- a fraction and what follows it are determined
same_tail_fraction : (p q d f r s : List ℕ) → IsFraction p d → IsFraction q f → AllPass is_ascii_digit d → AllPass is_ascii_digit f
    → ends_number r ≡ true → ends_number s ≡ true → p ++ r ≡ q ++ s → (p ≡ q) × (d ≡ f) × (r ≡ s)
same_tail_fraction [] [] d f r s a b da fa u v e = (refl, a ∙ sym b, e)
same_tail_fraction [] (y ∷ q) d f r s a (b, b') da fa u v e = absurd (no_dot y (q ++ s) r b e u)
same_tail_fraction (x ∷ p) [] d f r s (a, a') b da fa u v e = absurd (no_dot x (p ++ r) s a (sym e) v)
same_tail_fraction (x ∷ p) (y ∷ q) d f r s (a, a') (b, b') da fa u v e =
    let h = same_digits d f r s da fa (number_ends_digits r u) (number_ends_digits s v) (subst (λ z. z ++ r ≡ f ++ s) a' (subst (λ z. p ++ r ≡ z ++ s) b' (same_tail x y (p ++ r) (q ++ s) e))) in
    (same_cons x y p q (a ∙ sym b) (a' ∙ (h.0 ∙ sym b')), h.0, h.1)

front_begins : (r t : List ℕ) → begins_unsigned r ≡ true → begins_unsigned (r ++ t) ≡ true
front_begins [] t e = absurd (true≢false (sym e))
front_begins (b ∷ r) t e = e

same_appended : (s s' w w' p p' : List ℕ) → s ≡ s' → w ≡ w' → p ≡ p' → s ++ w ++ p ≡ s' ++ w' ++ p'
same_appended s s' w w' p p' e f g = rw e (rw f (rw g refl))

regroup : (t s w p r : List ℕ) → t ≡ s ++ w ++ p → t ++ r ≡ s ++ (w ++ (p ++ r))
regroup t s w p r e = rw e (append_assoc (s ++ w) p r ∙ append_assoc s w (p ++ r))

-- a number text, its value and what follows it are determined by the whole text
pub one_number : (t u r q : List ℕ) (v w : ℤ) → IsNumber t v → IsNumber u w → ends_number r ≡ true → ends_number q ≡ true → t ++ r ≡ u ++ q
    → (t ≡ u) × (v ≡ w) × (r ≡ q)
one_number t u r q v w (n, s, whole, p, d, e, sg, ds, fr, dd, ne, val) (n', s', whole', p', d', e', sg', ds', fr', dd', ne', val') er eq e'' =
    let h = same_sign s s' (whole ++ (p ++ r)) (whole' ++ (p' ++ q)) n n' sg sg'
    (subst (λ z. begins_unsigned z ≡ true) (append_assoc whole p r) (front_begins (whole ++ p) r (rest_begins whole p d ds fr ne)))
    (subst (λ z. begins_unsigned z ≡ true) (append_assoc whole' p' q) (front_begins (whole' ++ p') q (rest_begins whole' p' d' ds' fr' ne')))
    (sym (regroup t s whole p r e) ∙ (e'' ∙ regroup u s' whole' p' q e')) in
    let g = same_digits whole whole' (p ++ r) (p' ++ q) ds ds' (fraction_tail_ends p d r fr er) (fraction_tail_ends p' d' q fr' eq) h.2 in
    let f = same_tail_fraction p p' d d' r q fr fr' dd dd' er eq g.1 in
    (e ∙ (same_appended s s' whole whole' p p' h.1 g.0 f.0 ∙ sym e'), same_value n n' whole whole' d d' v w h.0 g.0 f.1 val val', f.2)
