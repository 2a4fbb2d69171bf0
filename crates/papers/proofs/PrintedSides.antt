-- A side is read as it was printed, and is one field of a line.
use Rattle.std.specs.Prelude.{decimal, replicate, nat_lt, nat_le, nat_abs, ℤ, pos, Option, Some, None, if◌then◌else◌, ◌&&◌, ◌||◌}
use Rattle.std.specs.List.{All, AllPass}
use Rattle.std.specs.Char.{is_ascii_digit}
use Rattle.std.proofs.Common.{arith, ◌≡◌, ◌≢◌, ℕ, zero, suc, ◌+◌, ◌-◌, ◌*◌, ◌/◌, ◌%◌, ◌^◌, ◌<◌, ◌≤◌, List, [], ◌∷◌, ◌++◌, Bool, true, false, refl, sym, ap, subst, ◌∙◌, length, append_assoc, append-nil}
use Rattle.std.proofs.lemmas.Bool.Decides.{nat_tests}
use Rattle.std.proofs.lemmas.List.Elements.{All-nil, All-cons, All-append, All-weaker}
use Rattle.rules.specs.Numbers.{IsNumber, decimals_of, decimals_value, fraction_text, number_of, points_text, printed}
use Rattle.rules.specs.Papers.{Paper, is_side as may_be_side}
use Rattle.rules.proofs.Digits.{decimal_writes, number_of-last}
use Rattle.rules.proofs.LastZeros.{filled}
use Rattle.rules.proofs.Printed.{decimals_few, decimals_pass, decimals_read, fraction_is}
use Rattle.lengths.specs.Reading.{number_at}
use Rattle.lengths.proofs.Numbers.{number_read}
use Rattle.papers.specs.Media.{is_short, paper_meant, paper_or_error, points_at, points_of}
use Rattle.papers.specs.Found.{IsReportable, IsReportablePaper, as_printed, printed_side}

-- ---- a side is read as it was printed
zeros : (k : ℕ) → replicate {A = ℕ} (k + 4) 48 ≡ replicate {A = ℕ} k 48 ++ (48 ∷ 48 ∷ 48 ∷ 48 ∷ [])
zeros zero = refl
zeros (suc k) = let e : suc k + 4 ≡ suc (k + 4) = omega arith in ap (λ n. replicate {A = ℕ} n 48) e ∙ ap (λ xs. 48 ∷ xs) (zeros k)

one_by_one : (xs : List ℕ) → xs ++ (48 ∷ 48 ∷ 48 ∷ 48 ∷ []) ≡ (((xs ++ (48 ∷ [])) ++ (48 ∷ [])) ++ (48 ∷ [])) ++ (48 ∷ [])
one_by_one [] = refl
one_by_one (x ∷ xs) = ap (λ ys. x ∷ ys) (one_by_one xs)

multiplied : (n a b c d : ℕ) → a ≡ n * 10 + (48 - 48) → b ≡ a * 10 + (48 - 48) → c ≡ b * 10 + (48 - 48) → d ≡ c * 10 + (48 - 48) → d ≡ n * 10_000
multiplied n a b c d e f g h = omega (arith, e, f, g, h)

ten_thousand : (xs : List ℕ) → number_of (xs ++ (48 ∷ 48 ∷ 48 ∷ 48 ∷ [])) ≡ number_of xs * 10_000
ten_thousand xs =
    let a : List ℕ = xs ++ (48 ∷ []) in
    let b : List ℕ = a ++ (48 ∷ []) in
    let c : List ℕ = b ++ (48 ∷ []) in
    ap number_of (one_by_one xs)
    ∙ multiplied (number_of xs) (number_of a) (number_of b) (number_of c) (number_of (c ++ (48 ∷ []))) (number_of-last xs 48) (number_of-last a 48) (number_of-last b 48) (number_of-last c 48)

nine_decimals : (ds : List ℕ) → length ds ≤ 5 → decimals_value 9 ds ≡ decimals_value 5 ds * 10_000
nine_decimals ds few =
    let k : ℕ = 5 - length ds in
    let more : 9 - length ds ≡ k + 4 = omega (arith, few) in
    ap number_of (filled ds 9 9 (omega (arith, few)) (omega arith) ∙ ap (λ n. ds ++ replicate {A = ℕ} n 48) more ∙ ap (λ xs. ds ++ xs) (zeros k) ∙ sym (append_assoc ds (replicate {A = ℕ} k 48) (48 ∷ 48 ∷ 48 ∷ 48 ∷ [])))
    ∙ ten_thousand (ds ++ replicate {A = ℕ} k 48)
    ∙ ap (λ xs. number_of xs * 10_000) (sym (filled ds 5 5 few (omega arith)))

is_number : (n : ℕ) → n ≤ 9_999_999_999 → IsNumber (printed 5 (pos n)) (pos (n * 10_000))
is_number n few =
    let whole : ℕ = n / 10 ^ 5 in
    let part : ℕ = n % 10 ^ 5 in
    let low : part < 10 ^ 5 = omega arith in
    let w = decimal_writes whole (omega (arith, few)) in
    let ds : List ℕ = decimals_of 5 part in
    let short = decimals_few 5 part low (omega arith) in
    let value : decimals_value 9 ds ≡ part * 10_000 = nine_decimals ds short ∙ ap (λ m. m * 10_000) (decimals_read 5 part low (omega arith)) in
    let all : n * 10_000 ≡ number_of (decimal whole) * 10 ^ 9 + decimals_value 9 ds = omega (arith, w.value, value) in
    (false, [], decimal whole, fraction_text ds, ds, refl, refl, w.pass, fraction_is ds, decimals_pass 5 part low (omega arith), some_digit (decimal whole) ds w.some, ap pos all)
  where
    some_digit : (xs ys : List ℕ) → 0 < length xs → xs ++ ys ≢ []
    some_digit [] ys h e = absurd (omega (arith, h))
    some_digit (x ∷ xs) ys h e = absurd (cc (e))

side_read : (n : ℕ) → n ≤ 9_999_999_999 → points_of (printed 5 (pos n)) ≡ Some (pos (n * 1_270_000))
side_read n few =
    let text : List ℕ = printed 5 (pos n) in
    let small : nat_lt 99_999_999_999_999 (n * 10_000) ≡ false = below 99_999_999_999_999 (n * 10_000) (omega (arith, few)) in
    let grains_are : n * 10_000 * 127 ≡ n * 1_270_000 = omega arith in
    ap points_at (ap number_at (sym (append-nil text)) ∙ number_read text [] (pos (n * 10_000)) (is_number n few) tt)
    ∙ ap (λ t. if t then None else Some (pos (n * 10_000 * 127))) small
    ∙ ap (λ m. Some (pos m)) grains_are
  where
    below : (most m : ℕ) → m ≤ most → nat_lt most m ≡ false
    below most m h = grind (arith, nat_tests)

-- ---- both of a paper give it back
abbrev of_parts : (w h : ℕ) → Paper
of_parts w h = record { width = pos (w * 1_270_000); height = pos (h * 1_270_000) }

above : (a b : ℕ) → a ≤ b → nat_le a b ≡ true
above a b h = grind (arith, nat_tests)

both : (a b : Bool) → a ≡ true → b ≡ true → (a && b) ≡ true
both true b e f = f
both false b e f = e

side_so : (n : ℕ) → 0 < n → n ≤ 9_999_999_999 → may_be_side (pos (n * 1_270_000)) ≡ true
side_so n some few =
    both (nat_le 1 (n * 1_270_000)) (nat_le (n * 1_270_000) 914_399_999_999_990_856)
    (above 1 (n * 1_270_000) (omega (arith, some))) (above (n * 1_270_000) 914_399_999_999_990_856 (omega (arith, few)))

long_enough : (n : ℕ) → 100_000 ≤ n → is_short (pos (n * 1_270_000)) ≡ false
long_enough n some = not_below (n * 1_270_000) (omega (arith, some))
  where
    not_below : (m : ℕ) → 127_000_000_000 ≤ m → nat_lt m 127_000_000_000 ≡ false
    not_below m h = grind (arith, nat_tests)

-- in order: no side is short, and both may be a paper's
abbrev chosen : (w h : ℕ) → (short_w short_h side_w side_h : Bool) → Option Paper
chosen w h short_w short_h side_w side_h =
    if short_w || short_h then None else (if side_w && side_h then Some (of_parts w h) else None)

sides_taken : (w h : ℕ) → 100_000 ≤ w → w ≤ 9_999_999_999 → 100_000 ≤ h → h ≤ 9_999_999_999
    → paper_or_error (pos (w * 1_270_000)) (pos (h * 1_270_000)) ≡ Some (of_parts w h)
sides_taken w h sw fw sh fh =
    let side_w : Bool = may_be_side (pos (w * 1_270_000)) in
    let side_h : Bool = may_be_side (pos (h * 1_270_000)) in
    ap (λ t. chosen w h t (is_short (pos (h * 1_270_000))) side_w side_h) (long_enough w sw)
    ∙ ap (λ t. chosen w h false t side_w side_h) (long_enough h sh)
    ∙ ap (λ t. chosen w h false false t side_h) (side_so w (omega (arith, sw)) fw)
    ∙ ap (λ t. chosen w h false false true t) (side_so h (omega (arith, sh)) fh)

written : (side : ℤ) (t : IsReportable side) → points_text side ≡ printed 5 (pos t.parts)
written side t = ap (printed 5) t.is

abbrev sized : (width height : ℤ) → Paper
sized width height = record { width = width; height = height }

in_parts : (p : Paper) (w : IsReportable p.width) (h : IsReportable p.height) → as_printed p ≡ of_parts w.parts h.parts
in_parts p w h =
    ap (λ x. sized (pos (nat_abs x * 1_270_000)) (printed_side p.height)) w.is
    ∙ ap (λ y. sized (pos (w.parts * 1_270_000)) (pos (nat_abs y * 1_270_000))) h.is

pub paper_read : (p : Paper) → IsReportablePaper p → paper_meant (points_of (points_text p.width)) (points_of (points_text p.height)) ≡ Some (as_printed p)
paper_read p t =
    let w = t.0 in
    let h = t.1 in
    ap (λ x. paper_meant x (points_of (points_text p.height))) (ap points_of (written p.width w) ∙ side_read w.parts w.few)
    ∙ ap (λ y. paper_meant (Some (pos (w.parts * 1_270_000))) y) (ap points_of (written p.height h) ∙ side_read h.parts h.few)
    ∙ sides_taken w.parts h.parts w.some w.few h.some h.few
    ∙ ap Some (sym (in_parts p w h))

-- ---- its bytes are digits and a dot
digits_all : (P : ℕ → Type 0) → ((b : ℕ) → is_ascii_digit b ≡ true → P b) → (ds : List ℕ) → AllPass is_ascii_digit ds → All P ds
digits_all P each ds h = All-weaker (λ b. is_ascii_digit b ≡ true) P each ds h

fraction_all : (P : ℕ → Type 0) → ((b : ℕ) → is_ascii_digit b ≡ true → P b) → P 46 → (ds : List ℕ) → AllPass is_ascii_digit ds → All P (fraction_text ds)
fraction_all P each dot [] h = All-nil P
fraction_all P each dot (d ∷ ds) h = All-cons P 46 (d ∷ ds) dot (digits_all P each (d ∷ ds) h)

printed_all : (P : ℕ → Type 0) → ((b : ℕ) → is_ascii_digit b ≡ true → P b) → P 46 → (n : ℕ) → n ≤ 9_999_999_999 → All P (printed 5 (pos n))
printed_all P each dot n few =
    All-append P (decimal (n / 10 ^ 5)) (fraction_text (decimals_of 5 (n % 10 ^ 5)))
    (digits_all P each (decimal (n / 10 ^ 5)) (decimal_writes (n / 10 ^ 5) (omega (arith, few))).pass)
    (fraction_all P each dot (decimals_of 5 (n % 10 ^ 5)) (decimals_pass 5 (n % 10 ^ 5) (omega arith) (omega arith)))

-- so all of them pass what digits and a dot pass
pub side_all : (P : ℕ → Type 0) → ((b : ℕ) → is_ascii_digit b ≡ true → P b) → P 46 → (side : ℤ) → IsReportable side → All P (points_text side)
side_all P each dot side t = subst (All P) (sym (written side t)) (printed_all P each dot t.parts t.few)

-- and there are some
some_text : (xs ys : List ℕ) → 0 < length xs → 0 < length (xs ++ ys)
some_text [] ys h = absurd (omega (arith, h))
some_text (x ∷ xs) ys h = omega arith

pub side_some : (side : ℤ) → IsReportable side → 0 < length (points_text side)
side_some side t =
    let n : ℕ = t.parts in
    let few = t.few in
    subst (λ x. 0 < length x) (sym (written side t))
    (some_text (decimal (n / 10 ^ 5)) (fraction_text (decimals_of 5 (n % 10 ^ 5))) (decimal_writes (n / 10 ^ 5) (omega (arith, few))).some)
