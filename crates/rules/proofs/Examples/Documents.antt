-- A document of n pages, and what is written for it: whole outputs, and their numbers of bytes.
use Rattle.std.proofs.Common.{ℕ, ◌+◌, List, [], ◌∷◌, ◌++◌, refl, ◌≡◌, true, false, Some, None, length}
use Rattle.std.specs.Prelude.{codes, decimal, flat_map, Result, Ok, ℤ, pos}
use Rattle.std.specs.List.{range_with_len}
use Rattle.std.specs.Fmt.{digits}
use Rattle.rules.specs.Bytes.{line}
use Rattle.rules.specs.Papers.{Pt, Cm, points}
use Rattle.rules.specs.Specification.{Quarters, Scaled, Moved, Measure, WrittenItem, Spec, settled}
use Rattle.rules.specs.Units.{◌>>=◌}
use Rattle.rules.specs.Run.{document_of, DocumentFault}
use Rattle.rules.specs.Output.{Frame, framed, output}
use Rattle.rules.proofs.Examples.Written.{item, measure, written}

abbrev lines : List (List ℕ) → List ℕ
lines texts = flat_map line texts

-- page p, whose first line has its number, counted from 1
abbrev page_lines : ℕ → List (List ℕ)
page_lines p = (codes "%%Page: " ++ decimal (p + 1) ++ codes " " ++ decimal (p + 1)) ∷ (codes "(" ++ decimal p ++ codes ") pop") ∷ codes "showpage" ∷ []

-- a small document, each page of which prints its number
abbrev pub document_of_pages : ℕ → List ℕ
document_of_pages n =
    lines (codes "%!PS-Adobe-3.0" ∷ (codes "%%Pages: " ++ decimal n) ∷ codes "%%EndComments" ∷ [])
    ++ lines (flat_map page_lines (range_with_len 0 n))
    ++ lines (codes "%%Trailer" ∷ codes "%%EOF" ∷ [])

abbrev pub read : ℕ → List (List WrittenItem) → Spec
read modulo groups = settled (written modulo groups)

abbrev pub plain : ℕ → WrittenItem
plain page = item false page []

abbrev centimetres : ℤ → Measure
centimetres number = measure number Cm

abbrev pub a4 : Frame
a4 = record { paper = points 595 842; border = None }

abbrev output_in : Frame → Spec → List ℕ → Result (List ℕ) DocumentFault
output_in frame spec text = document_of text >>= λ us. Ok (output frame None spec us)

-- how many bytes are written
abbrev bytes_in : Frame → Spec → List ℕ → Result ℕ DocumentFault
bytes_in frame spec text = output_in frame spec text >>= λ bytes. Ok (length bytes)

one_page_in_full : document_of_pages 1 ≡ lines (codes "%!PS-Adobe-3.0" ∷ codes "%%Pages: 1" ∷ codes "%%EndComments" ∷ codes "%%Page: 1 1" ∷ codes "(0) pop" ∷ codes "showpage" ∷ codes "%%Trailer" ∷ codes "%%EOF" ∷ [])
unfolding digits
one_page_in_full = refl

one_page_has_85_bytes : length (document_of_pages 1) ≡ 85
unfolding digits
one_page_has_85_bytes = refl

-- `0`: a copy of one page, in full
abbrev copy : List ℕ
copy = lines (
    codes "%!PS-Adobe-3.0"
    ∷ codes "%%Pages: 1"
    ∷ codes "%%EndComments"
    ∷ codes "%%Page: 1 1"
    ∷ codes "userdict /ImposeSave save put"
    ∷ codes "userdict /showpage {} put"
    ∷ codes "[1 0 0 1 0 0] concat"
    ∷ codes "newpath 0 0 moveto 595 0 lineto 595 842 lineto 0 842 lineto closepath clip newpath"
    ∷ codes "(0) pop"
    ∷ codes "showpage"
    ∷ codes "ImposeSave restore"
    ∷ codes "showpage"
    ∷ codes "%%Trailer"
    ∷ codes "%%EOF"
    ∷ [])

copy_of_one_page : output_in a4 (read 1 ((plain 0 ∷ []) ∷ [])) (document_of_pages 1) ≡ Ok copy
unfolding digits
copy_of_one_page = refl

copy_has_273_bytes : length copy ≡ 273
copy_has_273_bytes = refl

-- `2:0L@.7(21cm,0)+1L@.7(21cm,14.85cm)`: two pages on a sheet, turned to the left, in full
abbrev pub two_up : Spec
two_up =
    read 2
    ((item false 0 (Quarters 1 ∷ Scaled (pos 700_000_000) ∷ Moved (centimetres (pos 21_000_000_000)) (measure (pos 0) Pt) ∷ [])
    ∷ item false 1 (Quarters 1 ∷ Scaled (pos 700_000_000) ∷ Moved (centimetres (pos 21_000_000_000)) (centimetres (pos 14_850_000_000)) ∷ [])
    ∷ []) ∷ [])

abbrev turned_pair : List ℕ
turned_pair = lines (
    codes "%!PS-Adobe-3.0"
    ∷ codes "%%Pages: 1"
    ∷ codes "%%EndComments"
    ∷ codes "%%Page: 1 1"
    ∷ codes "userdict /ImposeSave save put"
    ∷ codes "userdict /showpage {} put"
    ∷ codes "[0 0.7 -0.7 0 595.27559 0] concat"
    ∷ codes "newpath 0 0 moveto 595 0 lineto 595 842 lineto 0 842 lineto closepath clip newpath"
    ∷ codes "(0) pop"
    ∷ codes "showpage"
    ∷ codes "ImposeSave restore"
    ∷ codes "userdict /ImposeSave save put"
    ∷ codes "userdict /showpage {} put"
    ∷ codes "[0 0.7 -0.7 0 595.27559 420.94488] concat"
    ∷ codes "newpath 0 0 moveto 595 0 lineto 595 842 lineto 0 842 lineto closepath clip newpath"
    ∷ codes "(1) pop"
    ∷ codes "showpage"
    ∷ codes "ImposeSave restore"
    ∷ codes "showpage"
    ∷ codes "%%Trailer"
    ∷ codes "%%EOF"
    ∷ [])

two_pages_a_sheet_turned_left : output_in a4 two_up (document_of_pages 2) ≡ Ok turned_pair
unfolding digits
two_pages_a_sheet_turned_left = refl

turned_pair_has_503_bytes : length turned_pair ≡ 503
turned_pair_has_503_bytes = refl

-- `2:1`: a blank sheet, in full
abbrev blank_sheet : List ℕ
blank_sheet = lines (
    codes "%!PS-Adobe-3.0"
    ∷ codes "%%Pages: 1"
    ∷ codes "%%EndComments"
    ∷ codes "%%Page: 1 1"
    ∷ codes "showpage"
    ∷ codes "%%Trailer"
    ∷ codes "%%EOF"
    ∷ [])

sheet_born_blank : output_in a4 (read 2 ((plain 1 ∷ []) ∷ [])) (document_of_pages 1) ≡ Ok blank_sheet
unfolding digits
sheet_born_blank = refl

blank_sheet_has_77_bytes : length blank_sheet ≡ 77
blank_sheet_has_77_bytes = refl

-- `4:0,1,2,3` on 5 pages: 8 sheets, the last three of them blank
one_page_a_sheet_in_blocks_of_four : bytes_in a4 (read 4 ((plain 0 ∷ []) ∷ (plain 1 ∷ []) ∷ (plain 2 ∷ []) ∷ (plain 3 ∷ []) ∷ [])) (document_of_pages 5) ≡ Ok 1_204
unfolding digits
one_page_a_sheet_in_blocks_of_four = refl

-- `2:-0` on 5 pages: pages 4, 2 and 0
every_other_page_backwards : bytes_in a4 (read 2 ((item true 0 [] ∷ []) ∷ [])) (document_of_pages 5) ≡ Ok 707
unfolding digits
every_other_page_backwards = refl

-- `0+0`: the page twice on one sheet
page_twice_on_a_sheet : bytes_in a4 (read 1 ((plain 0 ∷ plain 0 ∷ []) ∷ [])) (document_of_pages 1) ≡ Ok 469
unfolding digits
page_twice_on_a_sheet = refl

-- `0` with a border of 1 pt: the copy of 273 bytes, and a line of 107
border_of_one_point : bytes_in (framed (points 595 842) (Some (pos 127_000_000_000))) (read 1 ((plain 0 ∷ []) ∷ [])) (document_of_pages 1) ≡ Ok 380
unfolding digits
border_of_one_point = refl

-- `0`: a document in a document, whose page line doesn't begin a page
page_line_in_embedded_document : bytes_in a4 (read 1 ((plain 0 ∷ []) ∷ [])) (codes "%!PS\n%%Page: 1 1\n%%BeginDocument: a\n%%Page: 9 9\n%%EndDocument\nx\n") ≡ Ok 263
unfolding digits
page_line_in_embedded_document = refl
