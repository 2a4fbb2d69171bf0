-- The units of what was written, worked out: where pages are sheets and where they aren't, and the units of joined
-- kept lines.
use Rattle.std.proofs.Common.{ℕ, List, [], ◌∷◌, ◌++◌, refl, ◌≡◌, false, None, map, length}
use Rattle.std.specs.Prelude.{codes, flat_map, Result, Ok, pos}
use Rattle.std.specs.Fmt.{digits}
use Rattle.rules.specs.Papers.{Pt, points}
use Rattle.rules.specs.Specification.{Item, Spec, Upright}
use Rattle.rules.specs.Units.{FaultyBlock, ◌>>=◌, cut, first_unit}
use Rattle.rules.specs.Parts.{NestedUnit, nested, pages, page_run, trailer}
use Rattle.rules.specs.Filters.{ended, kept, drops_in_page}
use Rattle.rules.specs.Run.{document_of, DocumentFault}
use Rattle.rules.specs.Sheets.{sheets}
use Rattle.rules.specs.Output.{Frame, output}
use Rattle.imposed_again.specs.Again.{open_depth, sheet_texts}

abbrev frame : Frame
frame = record { paper = points 595 842; border = None }

abbrev item : ℕ → Item
item p = record { page = p; from_end = false; turn = Upright; scale = pos 1_000_000_000; x = record { number = pos 0; unit = Pt }; y = record { number = pos 0; unit = Pt } }

-- one page on each sheet, of blocks of m pages: `m:p,q,..`
abbrev single : ℕ → List ℕ → Spec
single m ps = record { modulo = m; groups = map (λ p. item p ∷ []) ps }

-- two pages on a sheet: `2:0+1`
abbrev pair : Spec
pair = record { modulo = 2; groups = (item 0 ∷ item 1 ∷ []) ∷ [] }

abbrev Document : Type 0
Document = Result (List NestedUnit) DocumentFault

-- what a run writes of a document, read again
abbrev again : Spec → List NestedUnit → Document
again spec us = document_of (output frame None spec us)

abbrev sheets_of : Spec → List NestedUnit → List (List ℕ)
sheets_of spec us = sheet_texts frame (pages us) (sheets spec (length (pages us)))

-- the number of sheets that were written, the number of pages that they are read as, and the depth after the
-- document's last page
abbrev seen_of : Spec → List ℕ → Result (ℕ × ℕ × ℕ) DocumentFault
seen_of spec text = document_of text >>= λ us. again spec us >>= λ vs. Ok (length (sheets_of spec us), length (pages vs), open_depth (page_run us))

-- Runs piped.

-- four pages, two on a sheet, two sheets on a sheet: each run's sheets are the next one's pages
abbrev four : List ℕ
four = codes "%!\n%%Page: 1 1\n1\r%%Page: 2 2\r2\r\n%%Page: 3 3\n3\n%%Page: 4 4\n4"

abbrev each_time : Result (ℕ × ℕ × ℕ) DocumentFault
each_time = document_of four >>= λ us. again pair us >>= λ vs. again pair vs >>= λ ws. Ok (length (pages us), length (pages vs), length (pages ws))

piped : each_time ≡ Ok (4, 2, 1)
unfolding digits
piped = refl

-- and once more, each page alone
three_times : (document_of four >>= λ us. again pair us >>= λ vs. again pair vs >>= λ ws. again (single 1 (0 ∷ 0 ∷ [])) ws >>= λ xs. Ok (length (pages xs))) ≡ Ok 2
unfolding digits
three_times = refl

-- Pages that leave an embedded document open.

-- `0,0`: the only page leaves one open; the second sheet isn't read as a page
abbrev open_page : List ℕ
open_page = codes "%!\n%%Page: 1 1\n%%BeginDocument: a\n"

left_open : seen_of (single 1 (0 ∷ 0 ∷ [])) open_page ≡ Ok (2, 1, 1)
unfolding digits
left_open = refl

-- it is a part of the first sheet's page
both_in_one : (document_of open_page >>= λ us. again (single 1 (0 ∷ 0 ∷ [])) us >>= λ vs. Ok (pages vs))
    ≡ (document_of open_page >>= λ us. Ok (flat_map (λ t. t) (sheets_of (single 1 (0 ∷ 0 ∷ [])) us) ∷ []))
unfolding digits
both_in_one = refl

-- `2:0,1`: the open page is only on the last sheet, and all sheets are read as pages
open_at_last : seen_of (single 2 (0 ∷ 1 ∷ [])) (codes "%!\n%%Page: 1 1\n%%Page: 2 2\n%%BeginDocument: a\n") ≡ Ok (2, 2, 1)
unfolding digits
open_at_last = refl

-- `2:1,0,0`: an end without a beginning, in another page, closes it again; the second sheet isn't read as a page,
-- the third is
closed_by_another : seen_of (single 2 (1 ∷ 0 ∷ 0 ∷ [])) (codes "%!\n%%Page: 1 1\n%%EndDocument\n%%Page: 2 2\n%%BeginDocument: a\n") ≡ Ok (3, 2, 1)
unfolding digits
closed_by_another = refl

-- `2:0,0`: the open page is on no sheet
not_placed : seen_of (single 2 (0 ∷ 0 ∷ [])) (codes "%!\n%%Page: 1 1\n%%Page: 2 2\n%%BeginDocument: a\n") ≡ Ok (2, 2, 1)
unfolding digits
not_placed = refl

-- a line `%%Trailer` after an open document is no trailer, so the depth after the last page isn't 0
abbrev ends_with : List ℕ → Result (ℕ × ℕ) DocumentFault
ends_with text = document_of text >>= λ us. Ok (length (trailer us), open_depth (page_run us))

no_trailer : ends_with (codes "%!\n%%Page: 1 1\n%%BeginDocument: a\n%%Trailer\n") ≡ Ok (0, 1)
no_trailer = refl

-- after the document's end it is one, and the depth is 0
with_trailer : ends_with (codes "%!\n%%Page: 1 1\n%%BeginDocument: a\n%%EndDocument\n%%Trailer\n") ≡ Ok (1, 0)
with_trailer = refl

-- Kept lines, joined.

abbrev bytes_cut : List ℕ → Result (List (List ℕ)) FaultyBlock
bytes_cut text = cut text >>= λ us. Ok (map (λ u. u.bytes) us)

abbrev bytes_kept : List ℕ → Result (List (List ℕ)) FaultyBlock
bytes_kept text = cut text >>= λ us. Ok (map (λ u. u.unit.bytes) (kept drops_in_page (nested us)))

-- a line that ends with CR, and an empty line: if the line between them is dropped, they become one line. Three
-- units are kept, and their bytes are cut into two
kept_units_of : bytes_kept (codes "%%Page: 1 1\na\r%%PageFonts: x\n\nb\n") ≡ Ok (codes "a\r" ∷ codes "\n" ∷ codes "b\n" ∷ [])
kept_units_of = refl

cut_again : bytes_cut (codes "a\r\nb\n") ≡ Ok (codes "a\r\n" ∷ codes "b\n" ∷ [])
cut_again = refl

-- the line feed may also go to a block that is counted in lines
block_feeds : bytes_kept (codes "%%BeginData: 1 x Lines\nd\r%%PageFonts: x\n\nb\n") ≡ Ok (codes "%%BeginData: 1 x Lines\nd\r" ∷ codes "\n" ∷ codes "b\n" ∷ [])
block_feeds = refl

block_cut_again : bytes_cut (codes "%%BeginData: 1 x Lines\nd\r\nb\n") ≡ Ok (codes "%%BeginData: 1 x Lines\nd\r\n" ∷ codes "b\n" ∷ [])
block_cut_again = refl

-- or to a block of no bytes, whose line ends with CR
empty_block_feeds : bytes_kept (codes "%%BeginBinary: 0\r%%PageFonts: x\n\nb\n") ≡ Ok (codes "%%BeginBinary: 0\r" ∷ codes "\n" ∷ codes "b\n" ∷ [])
empty_block_feeds = refl

empty_block_cut_again : bytes_cut (codes "%%BeginBinary: 0\r\nb\n") ≡ Ok (codes "%%BeginBinary: 0\r\n" ∷ codes "b\n" ∷ [])
empty_block_cut_again = refl

-- but not to a block of bytes, though its last byte is CR
block_of_bytes : bytes_cut (codes "%%BeginBinary: 1\n\r\nb\n") ≡ Ok (codes "%%BeginBinary: 1\n\r" ∷ codes "\n" ∷ codes "b\n" ∷ [])
block_of_bytes = refl

-- The line feed that ends a text.

-- it is a line of its own after a block of bytes
end_alone : bytes_cut (ended (codes "%%BeginBinary: 1\nx")) ≡ Ok (codes "%%BeginBinary: 1\nx" ∷ codes "\n" ∷ [])
end_alone = refl

-- otherwise it is a part of the last unit: of a line, of a block counted in lines that the text cuts off, of a
-- block of no bytes
end_of_line : bytes_cut (ended (codes "a\rb")) ≡ Ok (codes "a\r" ∷ codes "b\n" ∷ [])
end_of_line = refl

end_of_lines : bytes_cut (ended (codes "%%BeginData: 1 x Lines\nd")) ≡ Ok (codes "%%BeginData: 1 x Lines\nd\n" ∷ [])
end_of_lines = refl

end_of_empty_block : bytes_cut (ended (codes "a\n%%BeginBinary: 0")) ≡ Ok (codes "a\n" ∷ codes "%%BeginBinary: 0\n" ∷ [])
end_of_empty_block = refl

-- A unit and what follows it.

-- a line that ends with CR takes a line feed that follows, and a line without an end takes all that follows
cr_before_lf : bytes_cut (codes "a\r" ++ codes "\nb") ≡ Ok (codes "a\r\n" ∷ codes "b" ∷ [])
cr_before_lf = refl

no_end : bytes_cut (codes "a" ++ codes "b\n") ≡ Ok (codes "ab\n" ∷ [])
no_end = refl

-- an empty text has a first unit too, which has no bytes; that a unit has bytes is therefore a premise of its own
no_bytes : first_unit [] ≡ Ok (record { content = []; bytes = []; is_block = false })
no_bytes = refl
