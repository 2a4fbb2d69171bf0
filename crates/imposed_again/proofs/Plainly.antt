-- Texts with no line end in them.
use Rattle.std.specs.Prelude.{ℤ, nat_abs, nat_lt, decimal, not, if◌then◌else◌}
use Rattle.std.specs.Fmt.{digits, digits_onto, digit_glyph}
use Rattle.std.proofs.Common.{Bool, true, false, ◌==◌, ◌||◌, ◌&&◌, ◌≡◌, ℕ, zero, suc, ◌+◌, ◌/◌, ◌%◌, ◌^◌, ◌≤◌, List, [], ◌∷◌, ◌++◌, length, drop, refl, ap, arith, ◌∙◌}
use Rattle.std.proofs.lemmas.Bool.{ne_eqb}
use Rattle.rules.specs.Units.{is_end}
use Rattle.rules.specs.Numbers.{without_last_zeros, decimals_of, fraction_text, sign_text, printed, is_negative, scale_text, points_text, rounded}
use Rattle.imposed_again.specs.Seams.{no_ends}

both : (a b : Bool) → a ≡ true → b ≡ true → (a && b) ≡ true
both a b e f = ap (λ t. t && b) e ∙ f

second : (a b : Bool) → (a && b) ≡ true → b ≡ true
second true b e = e
second false b e = cc

first : (a b : Bool) → (a && b) ≡ true → a ≡ true
first true b e = refl
first false b e = e

pub no_ends_append : (a b : List ℕ) → no_ends a ≡ true → no_ends b ≡ true → no_ends (a ++ b) ≡ true
no_ends_append [] b e f = f
no_ends_append (x ∷ a) b e f = both (not (is_end x)) (no_ends (a ++ b)) (first (not (is_end x)) (no_ends a) e) (no_ends_append a b (second (not (is_end x)) (no_ends a) e) f)

no_ends_drop : (k : ℕ) (a : List ℕ) → no_ends a ≡ true → no_ends (drop k a) ≡ true
no_ends_drop zero [] e = e
no_ends_drop zero (x ∷ a) e = e
no_ends_drop (suc k) [] e = e
no_ends_drop (suc k) (x ∷ a) e = no_ends_drop k a (second (not (is_end x)) (no_ends a) e)

high : (m : ℕ) → 14 ≤ m → is_end m ≡ false
high m h = ap (λ t. t || (m == 10)) (ne_eqb m 13 (omega (arith, h))) ∙ ne_eqb m 10 (omega (arith, h))

glyph : (n : ℕ) → not (is_end (digit_glyph false (n % 10))) ≡ true
glyph n = turn (nat_lt (n % 10) 10)
  where
    turn : (b : Bool) → not (is_end (if b then 48 + n % 10 else (if false then 55 + n % 10 else 87 + n % 10))) ≡ true
    turn true = ap not (high (48 + n % 10) (omega arith))
    turn false = ap not (high (87 + n % 10) (omega arith))

onto : (k n : ℕ) (acc : List ℕ) → no_ends acc ≡ true → no_ends (digits_onto k 10 false n acc) ≡ true
onto zero n acc e = e
onto (suc k) n acc e = turn (n / 10 == 0) (both (not (is_end (digit_glyph false (n % 10)))) (no_ends acc) (glyph n) e) (λ f. onto k (n / 10) (digit_glyph false (n % 10) ∷ acc) f)
  where
    turn : (b : Bool) → no_ends (digit_glyph false (n % 10) ∷ acc) ≡ true → (no_ends (digit_glyph false (n % 10) ∷ acc) ≡ true → no_ends (digits_onto k 10 false (n / 10) (digit_glyph false (n % 10) ∷ acc)) ≡ true) → no_ends (if b then digit_glyph false (n % 10) ∷ acc else digits_onto k 10 false (n / 10) (digit_glyph false (n % 10) ∷ acc)) ≡ true
    turn true f more = f
    turn false f more = more f

pub no_ends_decimal : (n : ℕ) → no_ends (decimal n) ≡ true
unfolding digits
no_ends_decimal n = onto 64 n [] refl

no_ends_stripped : (ds : List ℕ) → no_ends ds ≡ true → no_ends (without_last_zeros ds) ≡ true
no_ends_stripped [] e = e
no_ends_stripped (d ∷ ds) e = turn ((length (without_last_zeros ds) == 0) && (d == 48)) (no_ends_stripped ds (second (not (is_end d)) (no_ends ds) e))
  where
    turn : (b : Bool) → no_ends (without_last_zeros ds) ≡ true → no_ends (if b then [] else d ∷ without_last_zeros ds) ≡ true
    turn true f = refl
    turn false f = both (not (is_end d)) (no_ends (without_last_zeros ds)) (first (not (is_end d)) (no_ends ds) e) f

no_ends_fraction : (ds : List ℕ) → no_ends ds ≡ true → no_ends (fraction_text ds) ≡ true
no_ends_fraction [] e = e
no_ends_fraction (d ∷ ds) e = e

no_ends_sign : (b : Bool) → no_ends (if b then 45 ∷ [] else []) ≡ true
no_ends_sign true = refl
no_ends_sign false = refl

pub no_ends_printed : (e : ℕ) (v : ℤ) → no_ends (printed e v) ≡ true
no_ends_printed e v =
    no_ends_append (sign_text v ++ decimal (nat_abs v / 10 ^ e)) (fraction_text (decimals_of e (nat_abs v % 10 ^ e)))
    (no_ends_append (sign_text v) (decimal (nat_abs v / 10 ^ e)) (no_ends_sign (is_negative v)) (no_ends_decimal (nat_abs v / 10 ^ e)))
    (no_ends_fraction (without_last_zeros (drop 1 (decimal (10 ^ e + nat_abs v % 10 ^ e)))) (no_ends_stripped (drop 1 (decimal (10 ^ e + nat_abs v % 10 ^ e))) (no_ends_drop 1 (decimal (10 ^ e + nat_abs v % 10 ^ e)) (no_ends_decimal (10 ^ e + nat_abs v % 10 ^ e)))))

pub no_ends_points : (g : ℤ) → no_ends (points_text g) ≡ true
no_ends_points g = no_ends_printed 5 (rounded g 1_270_000)

pub no_ends_scale : (v : ℤ) → no_ends (scale_text v) ≡ true
no_ends_scale v = no_ends_printed 9 v

-- A record, so that the prover finds the text from the fact.
pub record Whole (text : List ℕ) : Type 0 where
  pub is : no_ends text ≡ true

pub text : (a : List ℕ) → no_ends a ≡ true → Whole a
text a e = record { is = e }

infixl 60 ◌then◌
pub ◌then◌ : {a b : List ℕ} → Whole a → Whole b → Whole (a ++ b)
◌then◌ {a} {b} p q = record { is = no_ends_append a b p.is q.is }

pub number : (n : ℕ) → Whole (decimal n)
number n = record { is = no_ends_decimal n }

pub length_of : (g : ℤ) → Whole (points_text g)
length_of g = record { is = no_ends_points g }
