-- Sheets cut and laid: rows that run on.
use Rattle.std.proofs.Common.{arith, ◌≡◌, ℕ, suc, zero, ◌+◌, ◌*◌, ◌%◌, ◌<◌, List, [], ◌∷◌, ◌++◌, true, false, Option, refl, sym, ap, ◌∙◌}
use Rattle.std.specs.Prelude.{map, flat_map, ◌==◌}
use Rattle.std.specs.List.{range_with_len}
use Rattle.std.proofs.Math.Nat.{suc-mul, zero-mul}
use Rattle.std.proofs.lemmas.Bool.{cond-false, cond-true, eq-eqb, ne_eqb}
use Rattle.rules.specs.Signatures.{entry_of}
use Rattle.rules.specs.Rows.{Row}
use Rattle.layouts.specs.Cells.{size}
use Rattle.layouts.specs.declared.setting.Setting.{Setting}
use Rattle.row_sheets.specs.Filled.{duplex_entry, stack_entry, behind_in, GridRunsOn}
use Rattle.row_sheets.proofs.Behind.{behind_twice}

-- numbers that go on

shifted : {X : Type 0} (f : ℕ → X) (k a n : ℕ) → map (λ c. f (k + c)) (range_with_len a n) ≡ map f (range_with_len (k + a) n)
shifted f k a zero = refl
shifted f k a (suc n) =
    let next : k + (a + 1) ≡ k + a + 1 = omega arith in
    ap (λ xs. f (k + a) ∷ xs) (shifted f k (a + 1) n ∙ ap (λ m. map f (range_with_len m n)) next)

joined : {X : Type 0} (f : ℕ → X) (a n m : ℕ) → map f (range_with_len a n) ++ map f (range_with_len (a + n) m) ≡ map f (range_with_len a (n + m))
joined f a zero m =
    let none : a + 0 ≡ a = omega arith in
    let all : m ≡ 0 + m = omega arith in
    ap (λ k. map f (range_with_len k m)) none ∙ ap (λ k. map f (range_with_len a k)) all
joined f a (suc n) m =
    let next : a + suc n ≡ a + 1 + n = omega arith in
    let more : suc (n + m) ≡ suc n + m = omega arith in
    ap (λ k. f a ∷ (map f (range_with_len (a + 1) n) ++ map f (range_with_len k m))) next
    ∙ (ap (λ xs. f a ∷ xs) (joined f (a + 1) n m) ∙ ap (λ k. map f (range_with_len a k)) more)

-- blocks of n, one after the other
blocks_run : {X : Type 0} (f : ℕ → X) (n a m : ℕ) → flat_map (λ s. map (λ c. f (s * n + c)) (range_with_len 0 n)) (range_with_len a m) ≡ map f (range_with_len (a * n) (m * n))
blocks_run f n a zero = ap (λ k. map f (range_with_len (a * n) k)) (sym (zero-mul n))
blocks_run f n a (suc m) =
    let none : a * n + 0 ≡ a * n = omega arith in
    let one : a + 1 ≡ suc a = omega arith in
    let next : (a + 1) * n ≡ a * n + n = omega (arith, ap (λ k. k * n) one, suc-mul a n) in
    let more : n + m * n ≡ suc m * n = omega (arith, suc-mul m n) in
    ap (λ xs. map (λ c. f (a * n + c)) (range_with_len 0 n) ++ xs) (blocks_run f n (a + 1) m)
    ∙ (ap (λ xs. xs ++ map f (range_with_len ((a + 1) * n) (m * n))) (shifted f (a * n) 0 n ∙ ap (λ k. map f (range_with_len k n)) none)
    ∙ (ap (λ k. map f (range_with_len (a * n) n) ++ map f (range_with_len k (m * n))) next
    ∙ (joined f (a * n) n (m * n) ∙ ap (λ k. map f (range_with_len (a * n) k)) more)))

pub grid_runs_on : GridRunsOn
grid_runs_on cells sheets row = blocks_run (entry_of row) cells 0 sheets ∙ ap (λ k. map (entry_of row) (range_with_len k (sheets * cells))) (zero-mul cells)

pub stack_runs_on : (cells sheets : ℕ) (row : Row) → flat_map (λ c. map (λ s. stack_entry sheets row s c) (range_with_len 0 sheets)) (range_with_len 0 cells) ≡ map (entry_of row) (range_with_len 0 (cells * sheets))
stack_runs_on cells sheets row = blocks_run (entry_of row) sheets 0 cells ∙ ap (λ k. map (entry_of row) (range_with_len k (cells * sheets))) (zero-mul sheets)

-- two by two they are one after the other
pub in_pairs : {X : Type 0} (f : ℕ → X) (a n : ℕ) → flat_map (λ b. f (2 * b) ∷ f (2 * b + 1) ∷ []) (range_with_len a n) ≡ map f (range_with_len (2 * a) (2 * n))
in_pairs f a zero = refl
in_pairs f a (suc n) =
    let two : suc (suc (2 * n)) ≡ 2 * suc n = omega arith in
    let next : 2 * (a + 1) ≡ (2 * a + 1) + 1 = omega arith in
    ap (λ ys. f (2 * a) ∷ f (2 * a + 1) ∷ ys) (in_pairs f (a + 1) n ∙ ap (λ k. map f (range_with_len k (2 * n))) next)
    ∙ ap (λ k. map f (range_with_len (2 * a) k)) two

-- what is the same for each number of a range
pub same_each : {X : Type 0} (g h : ℕ → List X) (a n : ℕ) → ((c : ℕ) → c < a + n → g c ≡ h c) → flat_map g (range_with_len a n) ≡ flat_map h (range_with_len a n)
same_each g h a zero e = refl
same_each g h a (suc n) e =
    ap (λ xs. xs ++ flat_map g (range_with_len (a + 1) n)) (e a (omega arith))
    ∙ ap (λ xs. h a ++ xs) (same_each g h (a + 1) n (λ c less. e c (omega (arith, less))))

even : (l : ℕ) → (2 * l) % 2 == 0 ≡ true
even l = eq-eqb ((2 * l) % 2) 0 (omega arith)

odd : (l : ℕ) → (2 * l + 1) % 2 == 0 ≡ false
odd l = ne_eqb ((2 * l + 1) % 2) 0 (omega arith)

-- the front of a part of leaf l, and what is behind it
abbrev pub part_of_leaf : (leaves : ℕ) → (behind : ℕ → ℕ) → Row → (c l : ℕ) → List (Option ℕ)
part_of_leaf leaves behind row c l = duplex_entry leaves behind row (2 * l) c ∷ duplex_entry leaves behind row (2 * l + 1) (behind c) ∷ []

leaf_is : (t : Setting) (leaves : ℕ) (row : Row) (c l : ℕ) → c < size t.grid
    → part_of_leaf leaves (behind_in t) row c l ≡ entry_of row (c * (2 * leaves) + 2 * l) ∷ entry_of row (c * (2 * leaves) + (2 * l + 1)) ∷ []
leaf_is t leaves row c l within =
    let front : duplex_entry leaves (behind_in t) row (2 * l) c ≡ entry_of row (c * (2 * leaves) + 2 * l) =
    ap (λ d. entry_of row (d * (2 * leaves) + 2 * l)) (cond-true ((2 * l) % 2 == 0) c (behind_in t c) (even l)) in
    let back : duplex_entry leaves (behind_in t) row (2 * l + 1) (behind_in t c) ≡ entry_of row (c * (2 * leaves) + (2 * l + 1)) =
    ap (λ d. entry_of row (d * (2 * leaves) + (2 * l + 1))) (cond-false ((2 * l + 1) % 2 == 0) (behind_in t c) (behind_in t (behind_in t c)) (odd l) ∙ behind_twice t c within) in
    ap (λ x. x ∷ duplex_entry leaves (behind_in t) row (2 * l + 1) (behind_in t c) ∷ []) front ∙ ap (λ x. entry_of row (c * (2 * leaves) + 2 * l) ∷ x ∷ []) back

part_is : (t : Setting) (leaves : ℕ) (row : Row) (c : ℕ) → c < size t.grid
    → flat_map (part_of_leaf leaves (behind_in t) row c) (range_with_len 0 leaves) ≡ map (λ i. entry_of row (c * (2 * leaves) + i)) (range_with_len 0 (2 * leaves))
part_is t leaves row c within =
    same_each (part_of_leaf leaves (behind_in t) row c) (λ l. entry_of row (c * (2 * leaves) + 2 * l) ∷ entry_of row (c * (2 * leaves) + (2 * l + 1)) ∷ []) 0 leaves (λ l less. leaf_is t leaves row c l within)
    ∙ in_pairs (λ i. entry_of row (c * (2 * leaves) + i)) 0 leaves

pub duplex_runs_on : (t : Setting) (leaves : ℕ) (row : Row)
    → flat_map (λ c. flat_map (part_of_leaf leaves (behind_in t) row c) (range_with_len 0 leaves)) (range_with_len 0 (size t.grid)) ≡ map (entry_of row) (range_with_len 0 (size t.grid * (2 * leaves)))
duplex_runs_on t leaves row =
    same_each (λ c. flat_map (part_of_leaf leaves (behind_in t) row c) (range_with_len 0 leaves)) (λ c. map (λ i. entry_of row (c * (2 * leaves) + i)) (range_with_len 0 (2 * leaves))) 0 (size t.grid)
    (λ c less. part_is t leaves row c (omega (arith, less)))
    ∙ (blocks_run (entry_of row) (2 * leaves) 0 (size t.grid) ∙ ap (λ k. map (entry_of row) (range_with_len k (size t.grid * (2 * leaves)))) (zero-mul (2 * leaves)))
