-- Rows: what is imposed, in order. A row is made by steps, each of which takes a row to a row. The order of
-- signatures is of psbook(1); everything else here is by rules of this project.
use Rattle.std.specs.Prelude.{◌≡◌, ℕ, ◌+◌, ◌*◌, ◌%◌, ◌<◌, ◌≤◌, Bool, ◌==◌, if◌then◌else◌, List, [], ◌∷◌}
use Rattle.std.specs.Prelude.{length, map, flat_map, reverse, Option, Some, None}
use Rattle.std.specs.List.{range_with_len}
use Rattle.rules.specs.Specification.{Spec}
use Rattle.rules.specs.Sheets.{Slot, blocks, sheets_over}
use Rattle.rules.specs.Signatures.{AreSides, page_in_signature, signature_row, entry_of, sheets_in}

-- a row: pages, counted from 0, and blanks
abbrev pub Row : Type 0
Row = List (Option ℕ)

-- all pages of a document, in order (RULES, 11.1)
abbrev pub all_pages : (n : ℕ) → Row
all_pages n = map Some (range_with_len 0 n)

-- ---- parts of a row

-- the entries in odd places, counted from 1, and those in even places (RULES, 11.2)
abbrev pub odd_part : Row → Row
odd_part [] = []
odd_part (x ∷ []) = x ∷ []
odd_part (x ∷ y ∷ row) = x ∷ odd_part row

abbrev pub even_part : Row → Row
even_part [] = []
even_part (x ∷ []) = []
even_part (x ∷ y ∷ row) = y ∷ even_part row

-- the first of one, the first of the other, and so on; the rest of the longer one follows
abbrev pub interleaved : Row → Row → Row
interleaved [] ys = ys
interleaved (x ∷ xs) [] = x ∷ xs
interleaved (x ∷ xs) (y ∷ ys) = x ∷ y ∷ interleaved xs ys

-- a law: odd and even entries, interleaved, are the row; and a row reversed twice is the row
abbrev pub PartsOfRow : Type 0
PartsOfRow = (row : Row) → (interleaved (odd_part row) (even_part row) ≡ row) × (reverse (reverse row) ≡ row)

-- the pages whose number, counted from 1, passes the test; no blanks
abbrev pub numbers_that_pass : (ℕ → Bool) → Row → Row
numbers_that_pass test [] = []
numbers_that_pass test (None ∷ row) = numbers_that_pass test row
numbers_that_pass test (Some p ∷ row) = if test (p + 1) then Some p ∷ numbers_that_pass test row else numbers_that_pass test row

-- a law: of all pages, those in odd places have odd numbers, and those in even places even ones
abbrev pub PartsByNumber : Type 0
PartsByNumber = (n : ℕ) →
    (odd_part (all_pages n) ≡ numbers_that_pass (λ k. k % 2 == 1) (all_pages n))
    × (even_part (all_pages n) ≡ numbers_that_pass (λ k. k % 2 == 0) (all_pages n))

-- ---- signatures

-- the row in signatures of s sides, one after the other. The last one is filled up with blanks (RULES, 11.3)
abbrev pub in_signatures : (s : ℕ) → Row → Row
in_signatures s row =
    flat_map (λ b. map (λ i. entry_of row (b * s + page_in_signature s i)) (range_with_len 0 s))
    (range_with_len 0 (blocks s (length row)))

-- in signatures if a number of sides is given
abbrev pub in_order_of : (sides : Option ℕ) → Row → Row
in_order_of None row = row
in_order_of (Some s) row = in_signatures s row

-- the sheets of a specification on a row
abbrev pub sheets_of_row : Spec → Row → List (List Slot)
sheets_of_row spec row = sheets_over spec (length row) (entry_of row)

-- a law: the row of all pages in signatures is that of the rules
abbrev pub SignaturesOfAll : Type 0
SignaturesOfAll = (s n : ℕ) → in_signatures s (all_pages n) ≡ signature_row s n

-- a law: the sheets of a specification are those of the row of all pages, in signatures or not
abbrev pub SheetsOfAll : Type 0
SheetsOfAll = (sides : Option ℕ) (spec : Spec) (n : ℕ) →
    sheets_in sides spec n ≡ sheets_of_row spec (in_order_of sides (all_pages n))

-- ---- how many sides a signature has

-- the number of leaves that hold n entries, four each
abbrev pub leaves_for : (n : ℕ) → ℕ
leaves_for n = blocks 4 n

-- the most leaves that one signature should have, as thicker ones are hard to fold
abbrev pub most_leaves : ℕ
most_leaves = 8

-- the fewest signatures of which none has more leaves than that, if all are alike
abbrev pub auto_count : (n : ℕ) → ℕ
auto_count n = blocks most_leaves (leaves_for n)

abbrev pub auto_leaves : (n : ℕ) → ℕ
auto_leaves n = blocks (auto_count n) (leaves_for n)

abbrev pub auto_sides : (n : ℕ) → ℕ
auto_sides n = auto_leaves n * 4

-- a law about signatures that are chosen so. A signature may have this many sides, and none has more than eight
-- leaves. There are as many as were counted on, and fewer than four blanks for each of them fill them up
abbrev pub AutoSignatures : Type 0
AutoSignatures = (row : Row) → 0 < length row →
    (let n = length row in let s = auto_sides n in
    AreSides s × (s ≤ most_leaves * 4) × (blocks s n ≡ auto_count n)
    × (n ≤ length (in_signatures s row)) × (length (in_signatures s row) < n + auto_count n * 4))
