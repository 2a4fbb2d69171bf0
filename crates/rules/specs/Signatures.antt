-- Signatures: the pages in the order in which they are printed on leaves that are folded once, put into one another
-- and bound. The order, and the blanks that fill up the last signature, are of psbook(1), option -s. How many sides
-- a signature may have is a rule of this project.
use Rattle.std.specs.Prelude.{⊤, ◌≡◌, ℕ, ◌+◌, ◌-◌, ◌*◌, ◌/◌, ◌%◌, ◌<◌, ◌≤◌, ◌==◌, if◌then◌else◌, List, length, map}
use Rattle.std.specs.Prelude.{flat_map, Option, Some, None, slice_index_or}
use Rattle.std.specs.List.{range_with_len}
use Rattle.rules.specs.Specification.{Spec}
use Rattle.rules.specs.Sheets.{Slot, blocks, page_at, place, sheets, sheets_over}

-- the most sides of a signature
abbrev pub most_sides : ℕ
most_sides = 1_000_000

-- a number of sides that a signature may have: each leaf has four
abbrev pub AreSides : ℕ → Type 0
AreSides s = (0 < s) × (s % 4 ≡ 0) × (s ≤ most_sides)

-- if a number of sides is given, it is one that a signature may have
abbrev pub AreSidesIfGiven : Option ℕ → Type 0
AreSidesIfGiven None = ⊤
AreSidesIfGiven (Some s) = AreSides s

-- which of its pages is at a position of a signature of s sides. Leaf j is counted from the outermost one. Of the
-- pages that the leaves around it leave, its outside has the last and the first, and its inside the second and the
-- last but one
abbrev pub page_in_signature : (s position : ℕ) → ℕ
page_in_signature s i =
    let j = i / 4 in
    if i % 4 == 0 then s - 1 - 2 * j
    else (if i % 4 == 1 then 2 * j else (if i % 4 == 2 then 2 * j + 1 else s - 2 - 2 * j))

-- the row of n pages in signatures of s sides, one signature after the other. The last one is filled up with blanks
abbrev pub signature_row : (s n : ℕ) → List (Option ℕ)
signature_row s n =
    flat_map (λ b. map (λ i. page_at n (b * s + page_in_signature s i)) (range_with_len 0 s))
    (range_with_len 0 (blocks s n))

-- an entry of a row; after the end of the row all is blank
abbrev pub entry_of : List (Option ℕ) → ℕ → Option ℕ
entry_of row e = slice_index_or row e None

-- the row of n pages, in signatures if a number of sides is given: the number of its entries, and each of them
abbrev pub row_len : (sides : Option ℕ) → (n : ℕ) → ℕ
row_len None n = n
row_len (Some s) n = length (signature_row s n)

abbrev pub entry_in : (sides : Option ℕ) → (n e : ℕ) → Option ℕ
entry_in None n e = page_at n e
entry_in (Some s) n e = entry_of (signature_row s n) e

-- the sheets of a specification on this row
abbrev pub sheets_in : (sides : Option ℕ) → Spec → (n : ℕ) → List (List Slot)
sheets_in sides spec n = sheets_over spec (row_len sides n) (entry_in sides n)

-- a law: without signatures the row has the pages in order, and its form as a list makes no difference
abbrev pub WithoutSides : Type 0
WithoutSides = (spec : Spec) (n : ℕ) →
    (sheets_in None spec n ≡ sheets spec n)
    × (sheets spec n
    ≡ flat_map (λ b. map (λ g.
    map (λ i. record { page = page_at n (place spec.modulo n b i); item = i }) g) spec.groups)
    (range_with_len 0 (blocks spec.modulo n)))
    × (sheets spec n ≡ (let row = map Some (range_with_len 0 n) in sheets_over spec (length row) (entry_of row)))

-- a law: signatures are filled up
abbrev pub WholeSignatures : Type 0
WholeSignatures = (s n : ℕ) → length (signature_row s n) ≡ blocks s n * s

-- a law: the order of a signature is a permutation of its positions. Each position has a page of the signature, no
-- two have the same, and each page has a position
abbrev pub IsPermutation : Type 0
IsPermutation = (s : ℕ) → AreSides s →
    ((i : ℕ) → i < s → page_in_signature s i < s)
    × ((i k : ℕ) → i < s → k < s → page_in_signature s i ≡ page_in_signature s k → i ≡ k)
    × ((p : ℕ) → p < s → (i : ℕ) × (i < s) × (page_in_signature s i ≡ p))

-- a law: each page is in exactly one entry of the row
abbrev pub EachPageOnce : Type 0
EachPageOnce = (s n p : ℕ) → AreSides s → p < n →
    (e : ℕ) × (entry_of (signature_row s n) e ≡ Some p) × ((k : ℕ) → entry_of (signature_row s n) k ≡ Some p → k ≡ e)
