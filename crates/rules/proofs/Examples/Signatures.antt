-- The order of signatures, and sheets on it.
use Rattle.std.proofs.Common.{arith, ℕ, ◌+◌, ◌*◌, ◌<◌, ◌≤◌, ◌∙◌, List, [], ◌∷◌, length, map, get_or, sym, ap, refl, ◌≡◌, true, Some, None, Option}
use Rattle.std.specs.Prelude.{Result, Ok, Err, sum_by}
use Rattle.std.specs.Fmt.{digits}
use Rattle.std.specs.List.{range_with_len}
use Rattle.rules.specs.Specification.{Spec, settled_item}
use Rattle.rules.specs.Sheets.{Slot, blocks, page_at, sheets_over}
use Rattle.rules.specs.Signatures.{AreSides, page_in_signature, signature_row, entry_of, sheets_in}
use Rattle.rules.specs.Units.{◌>>=◌}
use Rattle.rules.specs.Run.{document_of, DocumentFault, plan_in, PlanTooManyPages, TooManySheets, TooManyPlaces}
use Rattle.rules.specs.Output.{output}
use Rattle.rules.proofs.Examples.Written.{item}
use Rattle.rules.proofs.Examples.Documents.{a4, document_of_pages, plain, read, two_up}
use Rattle.rules.proofs.Examples.Limits.{small, large, refused, passed}
use Rattle.rules.proofs.Counts.{place_count, row_at, sheet_count}
use Rattle.rules.proofs.Signatures.{entry_at, page_of_entry, whole_signatures}

-- the pages of a signature, from its first position to its last
abbrev order : ℕ → List ℕ
order s = map (page_in_signature s) (range_with_len 0 s)

abbrev on_sheets : (sides : Option ℕ) → Spec → ℕ → List (List (Option ℕ))
on_sheets sides spec n = map (λ sheet. map (λ slot. slot.page) sheet) (sheets_in sides spec n)

-- `0`: every page upright, on a sheet of its own
abbrev each : Spec
each = read 1 ((plain 0 ∷ []) ∷ [])

-- one leaf, two leaves, three leaves
one_leaf : order 4 ≡ 3 ∷ 0 ∷ 1 ∷ 2 ∷ []
one_leaf = refl

two_leaves : order 8 ≡ 7 ∷ 0 ∷ 1 ∷ 6 ∷ 5 ∷ 2 ∷ 3 ∷ 4 ∷ []
two_leaves = refl

three_leaves : order 12 ≡ 11 ∷ 0 ∷ 1 ∷ 10 ∷ 9 ∷ 2 ∷ 3 ∷ 8 ∷ 7 ∷ 4 ∷ 5 ∷ 6 ∷ []
three_leaves = refl

-- three leaves with two blanks
blanks_in_leaves : signature_row 12 10 ≡ None ∷ Some 0 ∷ Some 1 ∷ None ∷ Some 9 ∷ Some 2 ∷ Some 3 ∷ Some 8 ∷ Some 7 ∷ Some 4 ∷ Some 5 ∷ Some 6 ∷ []
blanks_in_leaves = refl

-- the numbers of sides that a signature may have: four, eight, and a million at most
four_sides : AreSides 4
four_sides = (omega arith, refl, omega arith)

most_sides : AreSides 1_000_000
most_sides = (omega arith, refl, omega arith)

sides_past_most : AreSides 1_000_004 → ⊥
sides_past_most h = omega (arith, h.2)

-- none, one, two, three and six are not multiples of four above 0
no_sides : AreSides 0 → ⊥
no_sides h = omega (arith, h.0)

one_side : AreSides 1 → ⊥
one_side h = omega (arith, h.1)

two_sides : AreSides 2 → ⊥
two_sides h = omega (arith, h.1)

three_sides : AreSides 3 → ⊥
three_sides h = omega (arith, h.1)

six_sides : AreSides 6 → ⊥
six_sides h = omega (arith, h.1)

-- signatures of 4 on no page, on 3, 4 and 5 pages
row_of_none : signature_row 4 0 ≡ []
row_of_none = refl

page_less_than_leaf : signature_row 4 3 ≡ None ∷ Some 0 ∷ Some 1 ∷ Some 2 ∷ []
page_less_than_leaf = refl

full_leaf : signature_row 4 4 ≡ Some 3 ∷ Some 0 ∷ Some 1 ∷ Some 2 ∷ []
full_leaf = refl

page_more_than_leaf : signature_row 4 5 ≡ Some 3 ∷ Some 0 ∷ Some 1 ∷ Some 2 ∷ None ∷ Some 4 ∷ None ∷ None ∷ []
page_more_than_leaf = refl

-- signatures of 8 on 7, 8 and 9 pages
page_less_than_signature : signature_row 8 7 ≡ None ∷ Some 0 ∷ Some 1 ∷ Some 6 ∷ Some 5 ∷ Some 2 ∷ Some 3 ∷ Some 4 ∷ []
page_less_than_signature = refl

full_signature : signature_row 8 8 ≡ Some 7 ∷ Some 0 ∷ Some 1 ∷ Some 6 ∷ Some 5 ∷ Some 2 ∷ Some 3 ∷ Some 4 ∷ []
full_signature = refl

page_more_than_signature : signature_row 8 9 ≡ Some 7 ∷ Some 0 ∷ Some 1 ∷ Some 6 ∷ Some 5 ∷ Some 2 ∷ Some 3 ∷ Some 4 ∷ None ∷ Some 8 ∷ None ∷ None ∷ None ∷ None ∷ None ∷ None ∷ []
page_more_than_signature = refl

-- one page on two leaves is on the second side
one_page : signature_row 8 1 ≡ None ∷ Some 0 ∷ None ∷ None ∷ None ∷ None ∷ None ∷ None ∷ []
one_page = refl

-- `0` on 8 pages in signatures of 8
eight_pages : on_sheets (Some 8) each 8 ≡ (Some 7 ∷ []) ∷ (Some 0 ∷ []) ∷ (Some 1 ∷ []) ∷ (Some 6 ∷ []) ∷ (Some 5 ∷ []) ∷ (Some 2 ∷ []) ∷ (Some 3 ∷ []) ∷ (Some 4 ∷ []) ∷ []
eight_pages = refl

-- `0` on 5 pages in signatures of 4: the second one has one page, and three sheets are blank
five_pages : on_sheets (Some 4) each 5 ≡ (Some 3 ∷ []) ∷ (Some 0 ∷ []) ∷ (Some 1 ∷ []) ∷ (Some 2 ∷ []) ∷ (None ∷ []) ∷ (Some 4 ∷ []) ∷ (None ∷ []) ∷ (None ∷ []) ∷ []
five_pages = refl

abbrev bytes_in : (sides : Option ℕ) → Spec → List ℕ → Result ℕ DocumentFault
bytes_in sides spec text = document_of text >>= λ us. Ok (length (output a4 sides spec us))

five_pages_have_1204_bytes : bytes_in (Some 4) each (document_of_pages 5) ≡ Ok 1_204
unfolding digits
five_pages_have_1204_bytes = refl

-- two pages side by side, on 8 pages in signatures of 8
two_up_leaves : on_sheets (Some 8) two_up 8 ≡ (Some 7 ∷ Some 0 ∷ []) ∷ (Some 1 ∷ Some 6 ∷ []) ∷ (Some 5 ∷ Some 2 ∷ []) ∷ (Some 3 ∷ Some 4 ∷ []) ∷ []
two_up_leaves = refl

-- `2:-0` on 5 pages in signatures of 4: from the end of the row of 8
last_entries : on_sheets (Some 4) (read 2 ((item true 0 [] ∷ []) ∷ [])) 5 ≡ (None ∷ []) ∷ (None ∷ []) ∷ (Some 1 ∷ []) ∷ (Some 3 ∷ []) ∷ []
last_entries = refl

-- `3:-0` and `3:-2` on 5 pages in signatures of 4: from the end of the row of 8, filled up to 9
minus_past_row : on_sheets (Some 4) (read 3 ((item true 0 [] ∷ []) ∷ (item true 2 [] ∷ []) ∷ [])) 5 ≡ (None ∷ []) ∷ (None ∷ []) ∷ (Some 2 ∷ []) ∷ (Some 4 ∷ []) ∷ (Some 3 ∷ []) ∷ (Some 1 ∷ []) ∷ []
minus_past_row = refl

-- `3:0` on 5 pages in signatures of 4: the row of 8 is filled up to 9
modulo_past_row : on_sheets (Some 4) (read 3 ((plain 0 ∷ []) ∷ [])) 5 ≡ (Some 3 ∷ []) ∷ (Some 2 ∷ []) ∷ (None ∷ []) ∷ []
modulo_past_row = refl

-- `3:2` on 5 pages in signatures of 4: an entry after the end of the row is blank
entry_behind_row : on_sheets (Some 4) (read 3 ((plain 2 ∷ []) ∷ [])) 5 ≡ (Some 1 ∷ []) ∷ (Some 4 ∷ []) ∷ (None ∷ []) ∷ []
entry_behind_row = refl

-- `0` on 0 pages in signatures of 4: no sheets
no_pages : on_sheets (Some 4) each 0 ≡ []
no_pages = refl

-- without signatures
in_order : on_sheets None each 3 ≡ (Some 0 ∷ []) ∷ (Some 1 ∷ []) ∷ (Some 2 ∷ []) ∷ []
in_order = refl

-- ---- long rows: sheets are counted and not computed
-- `0` has a sheet for each entry
sheets_of_each : (entries : ℕ) (entry : ℕ → Option ℕ) → length (sheets_over each entries entry) ≡ entries
sheets_of_each entries entry = sheet_count each entries entry ∙ omega arith

abbrev sheet_of : (ℕ → Option ℕ) → ℕ → List (List Slot)
sheet_of entry b = (record { page = entry (b * 1 + 0); item = settled_item (plain 0) } ∷ []) ∷ []

abbrev pages_of : List (List Slot) → ℕ → List (Option ℕ)
pages_of sheets s = map (λ slot. slot.page) (get_or sheets s [])

sheet_of_each : (entries e : ℕ) (entry : ℕ → Option ℕ) → e < entries → pages_of (sheets_over each entries entry) e ≡ entry e ∷ []
sheet_of_each entries e entry lt =
    ap (pages_of (sheets_over each entries entry)) place_is
    ∙ ap (map (λ (slot : Slot). slot.page)) (row_at (sheet_of entry) 1 (λ b. refl) 0 (blocks 1 entries) e 0 e [] in_blocks (omega arith) (omega arith))
    ∙ ap (λ k. entry k ∷ []) (sym place_is)
  where
    place_is : e ≡ e * 1 + 0
    place_is = omega arith

    in_blocks : e < blocks 1 entries
    in_blocks = omega arith

-- on one page in a signature of 1,000,000: the page is the first one of its signature, and is on the second sheet
million_sheets : length (sheets_in (Some 1_000_000) each 1) ≡ 1_000_000
million_sheets = sheets_of_each (length (signature_row 1_000_000 1)) (entry_of (signature_row 1_000_000 1)) ∙ whole_signatures 1_000_000 1

sheet_in_row : (s n e : ℕ) → 0 < s → e < blocks s n * s → pages_of (sheets_in (Some s) each n) e ≡ page_at n (page_of_entry s e) ∷ []
sheet_in_row s n e some lt =
    sheet_of_each (length (signature_row s n)) e (entry_of (signature_row s n)) (omega (arith, whole_signatures s n)) ∙ ap (λ p. p ∷ []) (entry_at s n e some)

second_of_million : pages_of (sheets_in (Some 1_000_000) each 1) 1 ≡ Some 0 ∷ []
second_of_million = sheet_in_row 1_000_000 1 1 (omega arith) (omega arith)

-- the entries of the row are counted, blanks among them
most_entries : (s n : ℕ) → blocks s n * s ≤ 1_000_000 → plan_in (Some s) each n ≡ Ok (sheets_in (Some s) each n)
most_entries s n few =
    let row = whole_signatures s n in
    let all = sheets_of_each (length (signature_row s n)) (entry_of (signature_row s n)) in
    let places : sum_by length (sheets_in (Some s) each n) ≡ length (signature_row s n) = place_count each (length (signature_row s n)) (entry_of (signature_row s n)) ∙ omega arith in
    passed _ PlanTooManyPages _ (small 1_000_000 (length (signature_row s n)) (omega arith))
    ∙ (passed _ TooManySheets _ (small 1_000_000 (length (sheets_in (Some s) each n)) (omega arith))
    ∙ passed _ TooManyPlaces _ (small 4_000_000 (sum_by length (sheets_in (Some s) each n)) (omega arith)))

too_many_entries : (s n : ℕ) → 1_000_000 < blocks s n * s → plan_in (Some s) each n ≡ Err PlanTooManyPages
too_many_entries s n many = refused _ PlanTooManyPages _ (large 1_000_000 (length (signature_row s n)) (omega (arith, whole_signatures s n)))

-- 999,999 pages: in signatures of 8 the row has 1,000,000 entries, and in signatures of 12 it has 1,000,008
in_signatures_of_eight : plan_in (Some 8) each 999_999 ≡ Ok (sheets_in (Some 8) each 999_999)
in_signatures_of_eight = most_entries 8 999_999 (omega arith)

in_signatures_of_twelve : plan_in (Some 12) each 999_999 ≡ Err PlanTooManyPages
in_signatures_of_twelve = too_many_entries 12 999_999 (omega arith)
