-- A set of numbers below n as the bits of a word, and the bits of a word as a set.
use Rattle.std.proofs.Common.{◌≡◌, ◌≢◌, ℕ, zero, suc, ◌+◌, ◌-◌, ◌*◌, ◌/◌, ◌%◌, ◌<◌, ◌^◌, Bool, true, false, not, true≢false, ◌&&◌, refl, sym, ap, ◌∙◌, subst, arith, eq-eqb, ne_eqb}
use Rattle.std.specs.Prelude.{if◌then◌else◌, ◌==◌, bit_and, bit_or}
use mathlib.Core.Logic.{dite}
use native.Mathlib.Decide.{ℕ_discrete}
use Rattle.std.proofs.Math.Nat.{two-pow-succ}
use Rattle.std.proofs.lemmas.Nat.{or_block, pow_pos, pow_below, mod-pow-add, shr-shr, mod_low}
use Rattle.std.specs.Int.Bits.{or_zero_r, or_add_and}
use Rattle.gather_table.specs.Table.{bits, with_mark, all_below}
use Rattle.gather_table.specs.Words.{has_bit}

-- a bit, as a number
abbrev digit : Bool → ℕ
digit b = if b then 1 else 0

digit_times : (b : Bool) (x : ℕ) → (if b then x else 0) ≡ digit b * x
digit_times true x = omega arith
digit_times false x = omega arith

digit_is : (f : ℕ → Bool) (n : ℕ) → bits f (suc n) ≡ digit (f n) * 2 ^ n + bits f n
digit_is f n = let d = digit_times (f n) (2 ^ n) in omega arith

pub bits_lt : (f : ℕ → Bool) (n : ℕ) → bits f n < 2 ^ n
bits_lt f zero = omega arith
bits_lt f (suc n) = let h = bits_lt f n in let t = two-pow-succ n in two (f n) refl h t
  where
    two : (b : Bool) → f n ≡ b → bits f n < 2 ^ n → 2 ^ suc n ≡ 2 ^ n + 2 ^ n → bits f n + (if f n then 2 ^ n else 0) < 2 ^ suc n
    two true e h t = rw e (omega arith)
    two false e h t = rw e (omega arith)

pub bits_not : (f : ℕ → Bool) (n : ℕ) → bits (λ k. not (f k)) n + bits f n + 1 ≡ 2 ^ n
bits_not f zero = refl
bits_not f (suc n) = two (f n) refl (bits_not f n) (two-pow-succ n)
  where
    two : (b : Bool) → f n ≡ b → bits (λ k. not (f k)) n + bits f n + 1 ≡ 2 ^ n → 2 ^ suc n ≡ 2 ^ n + 2 ^ n
        → bits (λ k. not (f k)) n + (if not (f n) then 2 ^ n else 0) + (bits f n + (if f n then 2 ^ n else 0)) + 1 ≡ 2 ^ suc n
    two true e h t = rw e (omega arith)
    two false e h t = rw e (omega arith)

pub bits_same : (f g : ℕ → Bool) (n : ℕ) → ((k : ℕ) → k < n → f k ≡ g k) → bits f n ≡ bits g n
bits_same f g zero h = refl
bits_same f g (suc n) h = λ i. bits_same f g n (λ k lt. h k (omega arith)) i + (if h n (omega arith) i then 2 ^ n else 0)

with_here : (f : ℕ → Bool) (k : ℕ) → with_mark f k k ≡ true
with_here f k = ap (λ b. if b then true else f k) (eq-eqb k k refl)

pub with_else : (f : ℕ → Bool) (k j : ℕ) → j ≢ k → with_mark f k j ≡ f j
with_else f k j n = ap (λ b. if b then true else f j) (ne_eqb j k n)

or_digit : (b : Bool) → bit_or (digit b) 1 ≡ 1
or_digit true = refl
or_digit false = refl

pub or_bits : (f : ℕ → Bool) (n k : ℕ) → k < n → bit_or (bits f n) (2 ^ k) ≡ bits (with_mark f k) n
or_bits f zero k lt = absurd (omega arith)
or_bits f (suc n) k lt = dite (ℕ_discrete n k) top (below (λ less. or_bits f n k less))
  where
    h : bits f n < 2 ^ n
    h = bits_lt f n

    top : n ≡ k → bit_or (bits f (suc n)) (2 ^ k) ≡ bits (with_mark f k) (suc n)
    top e = subst (λ j. bit_or (bits f (suc n)) (2 ^ j) ≡ bits (with_mark f j) (suc n)) e (
        ap (λ x. bit_or x (2 ^ n)) (digit_is f n)
        ∙ ap (λ x. bit_or (digit (f n) * 2 ^ n + bits f n) x) one
        ∙ or_block n (digit (f n)) 1 (bits f n) 0 h (pow_pos n)
        ∙ ap (λ x. x * 2 ^ n + bit_or (bits f n) 0) (or_digit (f n))
        ∙ ap (λ x. 1 * 2 ^ n + x) (or_zero_r (bits f n))
        ∙ sum)
      where
        one : 2 ^ n ≡ 1 * 2 ^ n + 0
        one = omega arith

        sum : 1 * 2 ^ n + bits f n ≡ bits (with_mark f n) (suc n)
        sum =
            let same : bits f n ≡ bits (with_mark f n) n = bits_same f (with_mark f n) n (λ j less. sym (with_else f n j (λ e'. absurd (omega arith)))) in
            rw (with_here f n) (omega arith)

    below : (k < n → bit_or (bits f n) (2 ^ k) ≡ bits (with_mark f k) n) → n ≢ k → bit_or (bits f (suc n)) (2 ^ k) ≡ bits (with_mark f k) (suc n)
    below ih ne =
        let less : k < n = omega arith in
        ap (λ x. bit_or x (2 ^ k)) (digit_is f n)
        ∙ ap (λ x. bit_or (digit (f n) * 2 ^ n + bits f n) x) none
        ∙ or_block n (digit (f n)) 0 (bits f n) (2 ^ k) h (pow_below k n less)
        ∙ ap (λ x. x * 2 ^ n + bit_or (bits f n) (2 ^ k)) (or_zero_r (digit (f n)))
        ∙ ap (λ x. digit (f n) * 2 ^ n + x) (ih less)
        ∙ ap (λ b. digit b * 2 ^ n + bits (with_mark f k) n) (sym (with_else f k n ne))
        ∙ sym (digit_is (with_mark f k) n)
      where
        none : 2 ^ k ≡ 0 * 2 ^ n + 2 ^ k
        none = omega arith

pub and_bits : (f : ℕ → Bool) (n k : ℕ) → k < n → bit_and (bits f n) (2 ^ k) ≡ (if f k then 2 ^ k else 0)
and_bits f n k lt = two (f k) refl
  where
    two : (b : Bool) → f k ≡ b → bit_and (bits f n) (2 ^ k) ≡ (if f k then 2 ^ k else 0)
    two true e =
        let same : bits (with_mark f k) n ≡ bits f n = bits_same (with_mark f k) f n (λ j _. at j) in
        let o = or_bits f n k lt in
        let a = or_add_and (bits f n) (2 ^ k) in
        rw e (omega arith)
      where
        at : (j : ℕ) → with_mark f k j ≡ f j
        at j = dite (ℕ_discrete j k) (λ is. ap (with_mark f k) is ∙ with_here f k ∙ sym e ∙ ap f (sym is)) (λ ne. with_else f k j ne)
    two false e =
        let o = or_bits f n k lt in
        let a = or_add_and (bits f n) (2 ^ k) in
        let p = plus f n k lt e in
        rw e (omega arith)
      where
        plus : (f : ℕ → Bool) (n k : ℕ) → k < n → f k ≡ false → bits (with_mark f k) n ≡ bits f n + 2 ^ k
        plus f zero k lt e = absurd (omega arith)
        plus f (suc n) k lt e = dite (ℕ_discrete n k)
            (λ is. subst (λ j. f j ≡ false → bits (with_mark f j) (suc n) ≡ bits f (suc n) + 2 ^ j) is (λ e'.
            let same : bits (with_mark f n) n ≡ bits f n = bits_same (with_mark f n) f n (λ j less. with_else f n j (λ z. absurd (omega arith))) in
            rw (with_here f n, e') (omega arith)) e)
            (λ ne. let h = plus f n k (omega arith) e in rw (with_else f k n ne) (omega arith))

and_true : (a b : Bool) → (a && b) ≡ true → (a ≡ true) × (b ≡ true)
and_true true b e = (refl, e)
and_true false b e = absurd (true≢false (sym e))

full : (f : ℕ → Bool) (n : ℕ) → all_below f n ≡ true → bits f n + 1 ≡ 2 ^ n
full f zero e = refl
full f (suc n) e = let h = and_true (all_below f n) (f n) e in let b = h.1 in let ih = full f n h.0 in let t = two-pow-succ n in rw b (omega arith)

lacks : (f : ℕ → Bool) (n : ℕ) → all_below f n ≡ false → bits f n + 1 < 2 ^ n
lacks f zero e = absurd (true≢false e)
lacks f (suc n) e = two (all_below f n) (f n) refl refl (λ none. lacks f n none) (bits_lt f n) (two-pow-succ n)
  where
    two : (a b : Bool) → all_below f n ≡ a → f n ≡ b → (all_below f n ≡ false → bits f n + 1 < 2 ^ n) → bits f n < 2 ^ n → 2 ^ suc n ≡ 2 ^ n + 2 ^ n → bits f n + (if f n then 2 ^ n else 0) + 1 < 2 ^ suc n
    two true true x y ih lt t = absurd (true≢false (sym (ap (λ z. z && f n) x ∙ y) ∙ e))
    two true false x y ih lt t = rw y (omega arith)
    two false true x y ih lt t = let h = ih x in rw y (omega arith)
    two false false x y ih lt t = rw y (omega arith)

-- the word of a set is that of all numbers exactly if all are in the set
pub full_bits : (f : ℕ → Bool) (n : ℕ) → (bits f n == 2 ^ n - 1) ≡ all_below f n
full_bits f n = two (all_below f n) refl
  where
    two : (b : Bool) → all_below f n ≡ b → (bits f n == 2 ^ n - 1) ≡ all_below f n
    two true e = let a = full f n e in rw e (eq-eqb (bits f n) (2 ^ n - 1) (omega arith))
    two false e = let a : bits f n + 1 < 2 ^ n = lacks f n e in rw e (ne_eqb (bits f n) (2 ^ n - 1) (λ (z : bits f n ≡ 2 ^ n - 1). omega arith))

two_cases : (r : ℕ) → r < 2 → (if r == 1 then 1 else 0) ≡ r
two_cases zero lt = refl
two_cases (suc zero) lt = refl
two_cases (suc (suc r)) lt = absurd (omega arith)

scaled : (b : Bool) (x r : ℕ) → (if b then 1 else 0) ≡ r → (if b then x else 0) ≡ r * x
scaled true x r e = let f : r ≡ 1 = omega arith in rw f (omega arith)
scaled false x r e = let f : r ≡ 0 = omega arith in rw f (omega arith)

-- the bits of a number, put together again
pub bits_of : (n m : ℕ) → bits (has_bit n) m ≡ n % 2 ^ m
bits_of n zero = omega arith
bits_of n (suc m) =
    let ih = bits_of n m in
    let e : 2 ^ (1 + m) ≡ 2 ^ suc m = ap (λ (k : ℕ). 2 ^ k) (omega arith) in
    let a = mod-pow-add n 1 m in
    let r : (if has_bit n m then 1 else 0) ≡ n / 2 ^ m % 2 = two_cases (n / 2 ^ m % 2) (omega arith) in
    let s = scaled (has_bit n m) (2 ^ m) (n / 2 ^ m % 2) r in
    let f : n % 2 ^ suc m ≡ n % 2 ^ (1 + m) = ap (λ (k : ℕ). n % k) (sym e) in
    omega arith

cut_bits : (f : ℕ → Bool) (n : ℕ) → bits f n % 2 ^ n ≡ bits f n
cut_bits f n = let b = bits_lt f n in let m = mod_low 0 n (bits f n) b in let e : 0 * 2 ^ n + bits f n ≡ bits f n = omega arith in sym (ap (λ (k : ℕ). k % 2 ^ n) e) ∙ m

top_same : (a b : Bool) (x y p : ℕ) → x < p → y < p → x + (if a then p else 0) ≡ y + (if b then p else 0) → (a ≡ b) × (x ≡ y)
top_same true true x y p lx ly e = (refl, omega arith)
top_same true false x y p lx ly e = absurd (omega arith)
top_same false true x y p lx ly e = absurd (omega arith)
top_same false false x y p lx ly e = (refl, omega arith)

-- two sets with the same word are the same
pub bits_tell : (f g : ℕ → Bool) (n : ℕ) → bits f n ≡ bits g n → (k : ℕ) → k < n → f k ≡ g k
bits_tell f g zero e k lt = absurd (omega arith)
bits_tell f g (suc n) e k lt =
    let t = top_same (f n) (g n) (bits f n) (bits g n) (2 ^ n) (bits_lt f n) (bits_lt g n) e in
    dite (ℕ_discrete k n) (λ (is : k ≡ n). ap f is ∙ t.0 ∙ ap g (sym is)) (λ other. bits_tell f g n t.1 k (omega arith))

pub bit_of_bits : (f : ℕ → Bool) (n k : ℕ) → k < n → has_bit (bits f n) k ≡ f k
bit_of_bits f n k lt = bits_tell (has_bit (bits f n)) f n (bits_of (bits f n) n ∙ cut_bits f n) k lt

pub has_later : (n i k : ℕ) → has_bit (n / 2 ^ i) k ≡ has_bit n (i + k)
has_later n i k = ap (λ (x : ℕ). x % 2 == 1) (shr-shr n i k)

-- one more bit
pub bit_or_at : (n j i : ℕ) → n < 2 ^ 64 → j < 64 → i < 64 → has_bit (bit_or n (2 ^ j)) i ≡ with_mark (has_bit n) j i
bit_or_at n j i small lj li =
    let low = mod_low 0 64 n small in
    let z : 0 * 2 ^ 64 + n ≡ n = omega arith in
    let whole : bits (has_bit n) 64 ≡ n = bits_of n 64 ∙ sym (ap (λ (k : ℕ). k % 2 ^ 64) z) ∙ low in
    let e : bit_or n (2 ^ j) ≡ bits (with_mark (has_bit n) j) 64 = ap (λ (x : ℕ). bit_or x (2 ^ j)) (sym whole) ∙ or_bits (has_bit n) 64 j lj in
    ap (λ (x : ℕ). has_bit x i) e ∙ bit_of_bits (with_mark (has_bit n) j) 64 i li
