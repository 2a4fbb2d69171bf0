-- Which papers cover which: an order.
use Rattle.std.proofs.Common.{arith, ◌≡◌, ℕ, ◌≤◌, Bool, true, false, refl, sym, ap, ◌∙◌, true≢false}
use Rattle.std.specs.Prelude.{ℤ, pos, negsuc, int_le, nat_le, ◌&&◌, if◌then◌else◌}
use Rattle.std.proofs.lemmas.Bool.Decides.{nat_tests}
use Rattle.rules.specs.Papers.{Paper}
use Rattle.papers.specs.Own.{smallest_cover, covers, larger}

-- ---- the order of sides
is_le : (a b : ℕ) → a ≤ b → nat_le a b ≡ true
is_le a b h = grind (arith, nat_tests)

at_least : (a b : ℕ) → nat_le a b ≡ true → a ≤ b
at_least a b e = grind (arith, nat_tests)

other_way : (a b : ℕ) → nat_le a b ≡ false → nat_le b a ≡ true
other_way a b e = grind (arith, nat_tests)

through : (a b c : ℕ) → nat_le a b ≡ true → nat_le b c ≡ true → nat_le a c ≡ true
through a b c e f = let g = at_least a b e in let h = at_least b c f in is_le a c (omega (arith, g, h))

same : (a : ℤ) → int_le a a ≡ true
same (pos n) = is_le n n (omega arith)
same (negsuc n) = is_le n n (omega arith)

more : (a b : ℤ) → int_le a b ≡ false → int_le b a ≡ true
more (pos a) (pos b) e = other_way a b e
more (pos a) (negsuc b) e = refl
more (negsuc a) (pos b) e = absurd (true≢false e)
more (negsuc a) (negsuc b) e = other_way b a e

onward : (a b c : ℤ) → int_le a b ≡ true → int_le b c ≡ true → int_le a c ≡ true
onward (pos a) (pos b) (pos c) e f = through a b c e f
onward (pos a) (pos b) (negsuc c) e f = absurd (true≢false (sym f))
onward (pos a) (negsuc b) c e f = absurd (true≢false (sym e))
onward (negsuc a) (pos b) (pos c) e f = refl
onward (negsuc a) (pos b) (negsuc c) e f = absurd (true≢false (sym f))
onward (negsuc a) (negsuc b) (pos c) e f = refl
onward (negsuc a) (negsuc b) (negsuc c) e f = through c b a f e

pub by_test : {P : Type 0} (b : Bool) → (b ≡ true → P) → (b ≡ false → P) → P
by_test true t f = t refl
by_test false t f = f refl

over_first : (a b : ℤ) → int_le a (larger a b) ≡ true
over_first a b =
    by_test (int_le a b)
    (λ is. ap (λ t. int_le a (if t then b else a)) is ∙ is)
    (λ isnt. ap (λ t. int_le a (if t then b else a)) isnt ∙ same a)

over_second : (a b : ℤ) → int_le b (larger a b) ≡ true
over_second a b =
    by_test (int_le a b)
    (λ is. ap (λ t. int_le b (if t then b else a)) is ∙ same b)
    (λ isnt. ap (λ t. int_le b (if t then b else a)) isnt ∙ more a b isnt)

-- ---- covering
pub both : (a b : Bool) → a ≡ true → b ≡ true → (a && b) ≡ true
both true true e f = refl
both true false e f = f
both false b e f = e

first : (a b : Bool) → (a && b) ≡ true → a ≡ true
first true b e = refl
first false b e = e

second : (a b : Bool) → (a && b) ≡ true → b ≡ true
second true b e = e
second false b e = absurd (true≢false (sym e))

pub covers_self : (p : Paper) → covers p p ≡ true
covers_self p = both (int_le p.width p.width) (int_le p.height p.height) (same p.width) (same p.height)

pub covers_first : (a b : Paper) → covers (smallest_cover a b) a ≡ true
covers_first a b = both (int_le a.width (larger a.width b.width)) (int_le a.height (larger a.height b.height)) (over_first a.width b.width) (over_first a.height b.height)

pub covers_second : (a b : Paper) → covers (smallest_cover a b) b ≡ true
covers_second a b = both (int_le b.width (larger a.width b.width)) (int_le b.height (larger a.height b.height)) (over_second a.width b.width) (over_second a.height b.height)

pub covers_through : (a b c : Paper) → covers a b ≡ true → covers b c ≡ true → covers a c ≡ true
covers_through a b c e f =
    both (int_le c.width a.width) (int_le c.height a.height)
    (onward c.width b.width a.width (first (int_le c.width b.width) (int_le c.height b.height) f) (first (int_le b.width a.width) (int_le b.height a.height) e))
    (onward c.height b.height a.height (second (int_le c.width b.width) (int_le c.height b.height) f) (second (int_le b.width a.width) (int_le b.height a.height) e))
