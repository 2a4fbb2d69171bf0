-- The guard's lines are short.
use Rattle.std.specs.Prelude.{ℤ, pos, negsuc, nat_abs, int_le, nat_le, decimal, codes, ◌&&◌, Option, Some, None, IfSome, IsTrue, if◌then◌else◌}
use Rattle.std.proofs.Common.{Bool, true, false, ◌==◌, ◌≡◌, ℕ, zero, suc, ◌+◌, ◌*◌, ◌/◌, ◌%◌, ◌^◌, ◌<◌, ◌≤◌, List, [], ◌∷◌, ◌++◌, length, drop, refl, arith, length-append, length-drop}
use Rattle.std.proofs.Math.Nat.{div-le_self}
use Rattle.std.proofs.lemmas.Bool.{leb-true}
use Rattle.std.proofs.lemmas.Fmt.{length-decimal-le_wide}
use Rattle.rules.specs.Numbers.{signed, rounded, is_negative, without_last_zeros, decimals_of, fraction_text, sign_text, printed, points_text}
use Rattle.rules.specs.Papers.{Paper, is_side, is_paper}
use Rattle.guard.specs.Guard.{first_lines, other_lines, page_size_line, guard_size_lines}
use Rattle.guard.specs.Laws.{AreShort, GuardIsShort}

abs_signed : (negative : Bool) (n : ℕ) → nat_abs (signed negative n) ≡ n
abs_signed true zero = refl
abs_signed true (suc n) = refl
abs_signed false n = refl

below : (n k : ℕ) → nat_le n k ≡ true → n ≤ k
below n k h = leb-true n k h

both : (a b : Bool) → (a && b) ≡ true → (a ≡ true) × (b ≡ true)
both true b e = (refl, e)
both false b e = cc

side_size : (g : ℤ) → is_side g ≡ true → nat_abs g ≤ 914_399_999_999_990_856
side_size (pos n) h = below n 914_399_999_999_990_856 (both (int_le (pos 1) (pos n)) (int_le (pos n) (pos 914_399_999_999_990_856)) h).1
side_size (negsuc n) h = cc

stripped : (ds : List ℕ) → length (without_last_zeros ds) ≤ length ds
stripped [] = omega arith
stripped (d ∷ ds) = turn ((length (without_last_zeros ds) == 0) && (d == 48)) (stripped ds)
  where
    turn : (b : Bool) → length (without_last_zeros ds) ≤ length ds → length (if b then [] else d ∷ without_last_zeros ds) ≤ length (d ∷ ds)
    turn true h = omega arith
    turn false h = omega (arith, h)

fraction : (ds : List ℕ) → length (fraction_text ds) ≤ suc (length ds)
fraction [] = omega arith
fraction (d ∷ ds) = omega arith

sign : (g : ℤ) → length (sign_text g) ≤ 1
sign g = turn (is_negative g)
  where
    turn : (b : Bool) → length {A = ℕ} (if b then 45 ∷ [] else []) ≤ 1
    turn true = omega arith
    turn false = omega arith

-- this many digits, a sign, a dot and decimals
printed_size : (e k : ℕ) (v : ℤ) → 0 < k → nat_abs v / 10 ^ e < 10 ^ k → nat_abs v / 10 ^ e < 10 ^ 64 → 10 ^ e + nat_abs v % 10 ^ e < 10 ^ k → 10 ^ e + nat_abs v % 10 ^ e < 10 ^ 64
    → length (printed e v) ≤ k + k + 2
printed_size e k v some whole wide part part_wide =
    let w : List ℕ = decimal (nat_abs v / 10 ^ e) in
    let all : List ℕ = decimal (10 ^ e + nat_abs v % 10 ^ e) in
    let ds : List ℕ = decimals_of e (nat_abs v % 10 ^ e) in
    let a = length-decimal-le_wide k (nat_abs v / 10 ^ e) some whole wide in
    let b = length-decimal-le_wide k (10 ^ e + nat_abs v % 10 ^ e) some part part_wide in
    let c = stripped (drop 1 all) in
    let d = length-drop 1 all in
    let f = fraction ds in
    let g = sign v in
    let h = length-append (sign_text v ++ w) (fraction_text ds) in
    let i = length-append (sign_text v) w in
    omega (arith, a, b, c, d, f, g, h, i)

-- the text of a side
side_text : (g : ℤ) → is_side g ≡ true → length (points_text g) ≤ 50
side_text g h =
    let v : ℤ = rounded g 1_270_000 in
    let n : ℕ = 2 * nat_abs g + 1_270_000 in
    let size : nat_abs v ≡ n / 2_540_000 = abs_signed (is_negative g) (n / 2_540_000) in
    let less : n / 2_540_000 ≤ n = div-le_self n 2_540_000 in
    let most = side_size g h in
    let few : nat_abs v / 100_000 ≤ nat_abs v = div-le_self (nat_abs v) 100_000 in
    let whole : nat_abs v / 100_000 < 1_000_000_000_000_000_000_000_000 = omega (arith, size, less, most, few) in
    printed_size 5 24 v (omega arith) whole (omega (arith, whole)) (omega arith) (omega arith)

abbrev are_short : ℕ → List (List ℕ) → Bool
are_short most [] = true
are_short most (l ∷ ls) = nat_le (length l) most && are_short most ls

told : (most : ℕ) (ls : List (List ℕ)) → are_short most ls ≡ true → AreShort most ls
told most [] h = tt
told most (l ∷ ls) h = let a = both (nat_le (length l) most) (are_short most ls) h in (below (length l) most a.0, told most ls a.1)

short_append : (most : ℕ) (ls ms : List (List ℕ)) → AreShort most ls → AreShort most ms → AreShort most (ls ++ ms)
short_append most [] ms h g = g
short_append most (l ∷ ls) ms h g = (h.0, short_append most ls ms h.1 g)

size_line : (p : Paper) → is_paper p.width p.height ≡ true → length (page_size_line p) ≤ 255
size_line p h =
    let sides = both (is_side p.width) (is_side p.height) h in
    let a = side_text p.width sides.0 in
    let b = side_text p.height sides.1 in
    let two : List ℕ = points_text p.height ++ codes "] put setpagedevice} if" in
    let c = length-append (points_text p.height) (codes "] put setpagedevice} if") in
    let d = length-append (codes " ") two in
    let e = length-append (points_text p.width) (codes " " ++ two) in
    let f = length-append (codes "/setpagedevice where {pop 1 dict dup /PageSize [") (points_text p.width ++ (codes " " ++ two)) in
    omega (arith, a, b, c, d, e, f)

sizes : (sheet_paper : Option Paper) → IfSome sheet_paper (λ p. IsTrue (is_paper p.width p.height)) → AreShort 255 (guard_size_lines sheet_paper)
sizes None h = tt
sizes (Some p) h = (size_line p h, tt)

pub guard_is_short : GuardIsShort
guard_is_short sheet_paper h =
    short_append 255 first_lines (guard_size_lines sheet_paper ++ other_lines) (told 255 first_lines refl) (short_append 255 (guard_size_lines sheet_paper) other_lines (sizes sheet_paper h) (told 255 other_lines refl))
