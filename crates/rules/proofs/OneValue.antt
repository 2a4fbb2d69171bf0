-- A number text has one value.
use Rattle.std.proofs.Common.{arith, ◌≡◌, ◌≢◌, ℕ, suc, ◌+◌, ◌*◌, ◌^◌, List, [], ◌∷◌, ◌++◌, Bool, true, false, not, ◌||◌, refl, sym, subst, true≢false, ◌∙◌}
use Rattle.std.specs.Prelude.{ℤ, ◌==◌}
use Rattle.std.specs.List.{AllPass}
use Rattle.std.specs.Char.{is_ascii_digit}
use Rattle.rules.specs.Numbers.{IsSign, IsFraction, signed, number_of, decimals_value}

pub head_passes : (b : ℕ) (rest : List ℕ) → AllPass is_ascii_digit (b ∷ rest) → is_ascii_digit b ≡ true
head_passes b rest w = w 0 0 (omega arith)

tail_passes : (b : ℕ) (rest : List ℕ) → AllPass is_ascii_digit (b ∷ rest) → AllPass is_ascii_digit rest
tail_passes b rest w k d lt = w (suc k) d (omega (arith, lt))

pub same_head : (b c : ℕ) (xs ys : List ℕ) → b ∷ xs ≡ c ∷ ys → b ≡ c
same_head b c xs ys e = cc

pub same_tail : (b c : ℕ) (xs ys : List ℕ) → b ∷ xs ≡ c ∷ ys → xs ≡ ys
same_tail b c xs ys e = cc

pub same_cons : (b c : ℕ) (xs ys : List ℕ) → b ≡ c → xs ≡ ys → b ∷ xs ≡ c ∷ ys
same_cons b c xs ys e f = cc

-- the list doesn't begin with a digit
abbrev pub ends_digits : List ℕ → Bool
ends_digits [] = true
ends_digits (b ∷ bs) = not (is_ascii_digit b)

not_both : (b : ℕ) → is_ascii_digit b ≡ true → not (is_ascii_digit b) ≡ true → ⊥
not_both b e f = true≢false (sym (subst (λ x. not x ≡ true) e f))

-- digits at the front, up to the first other byte, are determined by the text
pub same_digits : (xs ys p q : List ℕ) → AllPass is_ascii_digit xs → AllPass is_ascii_digit ys → ends_digits p ≡ true → ends_digits q ≡ true
    → xs ++ p ≡ ys ++ q → (xs ≡ ys) × (p ≡ q)
same_digits [] [] p q a b c d e = (refl, e)
same_digits [] (y ∷ ys) p q a b c d e = absurd (not_both y (head_passes y ys b) (subst (λ x. ends_digits x ≡ true) e c))
same_digits (x ∷ xs) [] p q a b c d e = absurd (not_both x (head_passes x xs a) (subst (λ z. ends_digits z ≡ true) (sym e) d))
same_digits (x ∷ xs) (y ∷ ys) p q a b c d e =
    let h = same_digits xs ys p q (tail_passes x xs a) (tail_passes y ys b) c d (same_tail x y _ _ e) in
    (same_cons x y xs ys (same_head x y _ _ e) h.0, h.1)

-- a number after its sign begins with a digit or a dot
abbrev pub begins_unsigned : List ℕ → Bool
begins_unsigned [] = false
begins_unsigned (b ∷ bs) = is_ascii_digit b || (b == 46)

digit_begins : (b : ℕ) → is_ascii_digit b ≡ true → is_ascii_digit b || (b == 46) ≡ true
digit_begins b e = rw e refl

pub rest_begins : (whole fraction decimals : List ℕ) → AllPass is_ascii_digit whole → IsFraction fraction decimals → whole ++ decimals ≢ [] → begins_unsigned (whole ++ fraction) ≡ true
rest_begins [] [] decimals w p ne = absurd (ne p)
rest_begins [] (x ∷ fraction) decimals w (p, q) ne = rw p refl
rest_begins (x ∷ whole) fraction decimals w p ne = digit_begins x (head_passes x whole w)

sign_apart : (n : Bool) (b : ℕ) (xs r : List ℕ) → r ≡ b ∷ xs → IsSign (b ∷ []) n → begins_unsigned r ≡ true → ⊥
sign_apart true b xs r e (s, t) u = true≢false (sym (subst (λ x. is_ascii_digit x || (x == 46) ≡ true) t (subst (λ x. begins_unsigned x ≡ true) e u)))
sign_apart false b xs r e (s, t) u = true≢false (sym (subst (λ x. is_ascii_digit x || (x == 46) ≡ true) t (subst (λ x. begins_unsigned x ≡ true) e u)))

abbrev minus_is : ℕ → Type 0
minus_is b = 45 ≡ b

no_sign : minus_is 43 → ⊥
no_sign e = omega (arith, e)

sign_told : (n m : Bool) (b : ℕ) → IsSign (b ∷ []) n → IsSign (b ∷ []) m → n ≡ m
sign_told true true b s t = refl
sign_told false false b s t = refl
sign_told true false b (s, s') (t, t') = absurd (no_sign (sym s' ∙ t'))
sign_told false true b (s, s') (t, t') = absurd (no_sign (sym t' ∙ s'))

-- the sign, and what follows it, are determined by the text
pub same_sign : (s t r q : List ℕ) (n m : Bool) → IsSign s n → IsSign t m → begins_unsigned r ≡ true → begins_unsigned q ≡ true → s ++ r ≡ t ++ q → (n ≡ m) × (s ≡ t) × (r ≡ q)
same_sign [] [] r q n m a b c d e = (a ∙ sym b, refl, e)
same_sign [] (y ∷ []) r q n m a b c d e = absurd (sign_apart m y q r e b c)
same_sign [] (y ∷ z ∷ t) r q n m a (b, b') c d e = cc
same_sign (x ∷ []) [] r q n m a b c d e = absurd (sign_apart n x r q (sym e) a d)
same_sign (x ∷ z ∷ s) [] r q n m (a, a') b c d e = cc
same_sign (x ∷ []) (y ∷ []) r q n m a b c d e = (sign_told n m y (subst (λ z. IsSign (z ∷ []) n) (same_head x y r q e) a) b, same_cons x y [] [] (same_head x y r q e) refl, same_tail x y r q e)
same_sign (x ∷ z ∷ s) (y ∷ t) r q n m (a, a') b c d e = cc
same_sign (x ∷ []) (y ∷ z ∷ t) r q n m a (b, b') c d e = cc

pub same_value : (n m : Bool) (whole whole' d d' : List ℕ) (v w : ℤ) → n ≡ m → whole ≡ whole' → d ≡ d'
    → v ≡ signed n (number_of whole * 10 ^ 9 + decimals_value 9 d) → w ≡ signed m (number_of whole' * 10 ^ 9 + decimals_value 9 d') → v ≡ w
same_value n m whole whole' d d' v w e f g a b = rw a (rw b (rw e (rw f (rw g refl))))
