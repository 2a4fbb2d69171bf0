-- Rows in signatures, and their parts.
use Rattle.std.proofs.Common.{arith, inl, inr, ◌≡◌, ℕ, zero, suc, ◌+◌, ◌*◌, Bool, true, false, List, [], ◌∷◌, ◌++◌, Option, Some, None, length, map, refl, sym, ap, ◌∙◌}
use Rattle.std.specs.Prelude.{flat_map, ◌%◌, ◌==◌, if◌then◌else◌}
use Rattle.std.specs.List.{range_with_len}
use Rattle.std.proofs.lemmas.Bool.{cases_lt}
use Rattle.std.proofs.lemmas.List.{get_or_past, reverse-reverse}
use Rattle.std.proofs.lemmas.List.FromFn.{get_or-map-range_with_len, length-map-range_with_len}
use Rattle.rules.specs.Sheets.{blocks, page_at, sheets_over}
use Rattle.rules.specs.Signatures.{entry_of, page_in_signature}
use Rattle.rules.proofs.Signatures.{page_shown, page_hidden, without_sides}
use Rattle.rules.specs.Rows.{Row, PartsByNumber, PartsOfRow, SheetsOfAll, SignaturesOfAll, all_pages, even_part, interleaved, odd_part, numbers_that_pass}

all_len : (n : ℕ) → length (all_pages n) ≡ n
all_len n = length-map-range_with_len {X = Option ℕ} Some 0 n

in_order : (n e : ℕ) → entry_of (all_pages n) e ≡ page_at n e
in_order n e =
    elim (cases_lt e n) [
      | inl low ↦ get_or-map-range_with_len Some 0 n e e None low (omega arith) ∙ sym (page_shown n e low)
      | inr high ↦ get_or_past (all_pages n) e None (let l = all_len n in omega arith) ∙ sym (page_hidden n e high)
    ]

maps_same : (f g : ℕ → Option ℕ) → ((i : ℕ) → f i ≡ g i) → (is : List ℕ) → map f is ≡ map g is
maps_same f g h [] = refl
maps_same f g h (i ∷ is) = ap (λ x. x ∷ map f is) (h i) ∙ ap (λ xs. g i ∷ xs) (maps_same f g h is)

rows_same : (f g : ℕ → Row) → ((b : ℕ) → f b ≡ g b) → (bs : List ℕ) → flat_map f bs ≡ flat_map g bs
rows_same f g h [] = refl
rows_same f g h (b ∷ bs) = ap (λ x. x ++ flat_map f bs) (h b) ∙ ap (λ xs. g b ++ xs) (rows_same f g h bs)

abbrev signature : (ℕ → Option ℕ) → (s b : ℕ) → Row
signature entry s b = map (λ i. entry (b * s + page_in_signature s i)) (range_with_len 0 s)

pub signatures_of_all : SignaturesOfAll
signatures_of_all s n =
    ap (λ k. flat_map (signature (entry_of (all_pages n)) s) (range_with_len 0 (blocks s k))) (all_len n)
    ∙ rows_same (signature (entry_of (all_pages n)) s) (signature (page_at n) s)
    (λ b. maps_same (λ i. entry_of (all_pages n) (b * s + page_in_signature s i)) (λ i. page_at n (b * s + page_in_signature s i))
    (λ i. in_order n (b * s + page_in_signature s i)) (range_with_len 0 s)) (range_with_len 0 (blocks s n))

pub sheets_of_all : SheetsOfAll
sheets_of_all None spec n = (without_sides spec n).2
sheets_of_all (Some s) spec n = ap (λ row. sheets_over spec (length row) (entry_of row)) (sym (signatures_of_all s n))

woven : (row : Row) → interleaved (odd_part row) (even_part row) ≡ row
woven [] = refl
woven (x ∷ []) = refl
woven (x ∷ y ∷ row) = ap (λ r. x ∷ y ∷ r) (woven row)

pub parts_of_row : PartsOfRow
parts_of_row row = (woven row, reverse-reverse row)

-- ---- by number
abbrev run : (first count : ℕ) → Row
run first count = map Some (range_with_len first count)

abbrev is_odd : ℕ → Bool
is_odd k = k % 2 == 1

abbrev is_even : ℕ → Bool
is_even k = k % 2 == 0

kept : (test : ℕ → Bool) (p : ℕ) (row : Row) → test (p + 1) ≡ true → numbers_that_pass test (Some p ∷ row) ≡ Some p ∷ numbers_that_pass test row
kept test p row e = ap (λ t. if t then Some p ∷ numbers_that_pass test row else numbers_that_pass test row) e

left_out : (test : ℕ → Bool) (p : ℕ) (row : Row) → test (p + 1) ≡ false → numbers_that_pass test (Some p ∷ row) ≡ numbers_that_pass test row
left_out test p row e = ap (λ t. if t then Some p ∷ numbers_that_pass test row else numbers_that_pass test row) e

first_odd : (b : ℕ) → is_odd (2 * b + 1) ≡ true
first_odd b = let e : (2 * b + 1) % 2 ≡ 1 = omega arith in ap (λ k. k == 1) e

second_odd : (b : ℕ) → is_odd (2 * b + 1 + 1) ≡ false
second_odd b = let e : (2 * b + 1 + 1) % 2 ≡ 0 = omega arith in ap (λ k. k == 1) e

first_even : (b : ℕ) → is_even (2 * b + 1) ≡ false
first_even b = let e : (2 * b + 1) % 2 ≡ 1 = omega arith in ap (λ k. k == 0) e

second_even : (b : ℕ) → is_even (2 * b + 1 + 1) ≡ true
second_even b = let e : (2 * b + 1 + 1) % 2 ≡ 0 = omega arith in ap (λ k. k == 0) e

odd_by_number : (b k : ℕ) → odd_part (run (2 * b) k) ≡ numbers_that_pass is_odd (run (2 * b) k)
odd_by_number b zero = refl
odd_by_number b (suc zero) = sym (kept is_odd (2 * b) [] (first_odd b))
odd_by_number b (suc (suc k)) =
    let next : 2 * b + 1 + 1 ≡ 2 * (b + 1) = omega arith in
    let rest : Row = run (2 * b + 1 + 1) k in
    ap (λ z. Some (2 * b) ∷ z)
    (ap (λ a. odd_part (run a k)) next ∙ odd_by_number (b + 1) k ∙ sym (ap (λ a. numbers_that_pass is_odd (run a k)) next) ∙ sym (left_out is_odd (2 * b + 1) rest (second_odd b)))
    ∙ sym (kept is_odd (2 * b) (Some (2 * b + 1) ∷ rest) (first_odd b))

even_by_number : (b k : ℕ) → even_part (run (2 * b) k) ≡ numbers_that_pass is_even (run (2 * b) k)
even_by_number b zero = refl
even_by_number b (suc zero) = sym (left_out is_even (2 * b) [] (first_even b))
even_by_number b (suc (suc k)) =
    let next : 2 * b + 1 + 1 ≡ 2 * (b + 1) = omega arith in
    let rest : Row = run (2 * b + 1 + 1) k in
    ap (λ z. Some (2 * b + 1) ∷ z)
    (ap (λ a. even_part (run a k)) next ∙ even_by_number (b + 1) k ∙ sym (ap (λ a. numbers_that_pass is_even (run a k)) next))
    ∙ sym (kept is_even (2 * b + 1) rest (second_even b))
    ∙ sym (left_out is_even (2 * b) (Some (2 * b + 1) ∷ rest) (first_even b))

pub parts_by_number : PartsByNumber
parts_by_number n = (odd_by_number 0 n, even_by_number 0 n)
