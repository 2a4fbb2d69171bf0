-- Whole outputs.
use Rattle.std.proofs.Common.{ℕ, List, [], ◌∷◌, refl, ◌≡◌, true, false, Some, None}
use Rattle.std.specs.Prelude.{codes, Result, Ok, pos}
use Rattle.std.specs.Fmt.{digits}
use Rattle.rules.specs.Papers.{Pt, Height, Paper, points}
use Rattle.rules.specs.Specification.{Quarters, Scaled, Moved, Spec, settled}
use Rattle.rules.specs.Units.{◌>>=◌}
use Rattle.rules.specs.Run.{document_of, DocumentFault}
use Rattle.rules.specs.Output.{Frame, border_within, framed, edge_text, border_text, sheet_text, output}
use Rattle.rules.proofs.Examples.Written.{item, measure, written}

abbrev a4 : Paper
a4 = points 595 842

abbrev output_in : Frame → Spec → List ℕ → Result (List ℕ) DocumentFault
output_in frame spec text = document_of text >>= λ us. Ok (output frame None spec us)

-- `0`: a border of half a point
with_border : output_in (framed a4 (Some (pos 63_500_000_000))) (settled (written 1 (((item false 0 ([])) ∷ []) ∷ []))) (codes "%!PS\n%%Page: 1 1\nx\n%%EOF\n") ≡ Ok (codes "%!PS\n%%Pages: 1\n%%Page: 1 1\nuserdict /ImposeSave save put\nuserdict /showpage {} put\n[1 0 0 1 0 0] concat\nnewpath 0 0 moveto 595 0 lineto 595 842 lineto 0 842 lineto closepath clip newpath\ngsave 0.5 setlinewidth newpath 0 0 moveto 595 0 lineto 595 842 lineto 0 842 lineto closepath stroke grestore\nx\nImposeSave restore\nshowpage\n%%EOF\n")
unfolding digits
with_border = refl

-- `2:1+0`: for a blank slot nothing is written, on a sheet with a page
blank_before_page : output_in (framed a4 (None)) (settled (written 2 (((item false 1 ([])) ∷ (item false 0 ([])) ∷ []) ∷ []))) (codes "%!PS\n%%Page: 1 1\nx") ≡ Ok (codes "%!PS\n%%Pages: 1\n%%Page: 1 1\nuserdict /ImposeSave save put\nuserdict /showpage {} put\n[1 0 0 1 0 0] concat\nnewpath 0 0 moveto 595 0 lineto 595 842 lineto 0 842 lineto closepath clip newpath\nx\nImposeSave restore\nshowpage\n")
unfolding digits
blank_before_page = refl

-- `2:-1L@.5(0,1h)+-0`: a document with CR, CR LF, a block and no last end
ends_of_all_kinds : output_in (framed a4 (None)) (settled (written 2 (((item true 1 (Quarters 1 ∷ Scaled (pos 500_000_000) ∷ Moved (measure (pos 0) Pt) (measure (pos 1_000_000_000) Height) ∷ [])) ∷ (item true 0 ([])) ∷ []) ∷ []))) (codes "%!PS\r%%Pages: (atend)\r\n%%BeginData: 1\n\r%%Page: 1 1\rx\r\n%%Page: 2 2\r\n%%BeginBinary: 2\r\n\r\n%%PageTrailer\r%%Trailer\r%%Pages: 2\r\n%%EOF") ≡ Ok (codes "%!PS\r%%Pages: 1\n%%BeginData: 1\n\r%%Page: 1 1\nuserdict /ImposeSave save put\nuserdict /showpage {} put\n[0 0.5 -0.5 0 0 842] concat\nnewpath 0 0 moveto 595 0 lineto 595 842 lineto 0 842 lineto closepath clip newpath\n%%BeginBinary: 2\r\n\r\nImposeSave restore\nuserdict /ImposeSave save put\nuserdict /showpage {} put\n[1 0 0 1 0 0] concat\nnewpath 0 0 moveto 595 0 lineto 595 842 lineto 0 842 lineto closepath clip newpath\nx\r\nImposeSave restore\nshowpage\n%%Trailer\r%%EOF")
unfolding digits
ends_of_all_kinds = refl

-- `0,0U`: an embedded document with pages and a trailer
embedded_document : output_in (framed a4 (None)) (settled (written 1 (((item false 0 ([])) ∷ []) ∷ ((item false 0 (Quarters 2 ∷ [])) ∷ []) ∷ []))) (codes "%!PS\n%%BoundingBox: 0 0 1 1\n%%Page: 1 1\n%%BeginDocument: a\n%!PS\n%%Page: 9 9\n%%EOF\n%%EndDocument\nx\n") ≡ Ok (codes "%!PS\n%%Pages: 2\n%%Page: 1 1\nuserdict /ImposeSave save put\nuserdict /showpage {} put\n[1 0 0 1 0 0] concat\nnewpath 0 0 moveto 595 0 lineto 595 842 lineto 0 842 lineto closepath clip newpath\n%%BeginDocument: a\n%!PS\n%%Page: 9 9\n%%EOF\n%%EndDocument\nx\nImposeSave restore\nshowpage\n%%Page: 2 2\nuserdict /ImposeSave save put\nuserdict /showpage {} put\n[-1 0 0 -1 0 0] concat\nnewpath 0 0 moveto 595 0 lineto 595 842 lineto 0 842 lineto closepath clip newpath\n%%BeginDocument: a\n%!PS\n%%Page: 9 9\n%%EOF\n%%EndDocument\nx\nImposeSave restore\nshowpage\n")
unfolding digits
embedded_document = refl

-- `2:1+0`: a page of its line alone
page_without_body : output_in (framed a4 (None)) (settled (written 2 (((item false 1 ([])) ∷ (item false 0 ([])) ∷ []) ∷ []))) (codes "%!PS\n%%Page: 1 1\n%%Page: 2 2\n") ≡ Ok (codes "%!PS\n%%Pages: 1\n%%Page: 1 1\nuserdict /ImposeSave save put\nuserdict /showpage {} put\n[1 0 0 1 0 0] concat\nnewpath 0 0 moveto 595 0 lineto 595 842 lineto 0 842 lineto closepath clip newpath\nImposeSave restore\nuserdict /ImposeSave save put\nuserdict /showpage {} put\n[1 0 0 1 0 0] concat\nnewpath 0 0 moveto 595 0 lineto 595 842 lineto 0 842 lineto closepath clip newpath\nImposeSave restore\nshowpage\n")
unfolding digits
page_without_body = refl

-- `3:-0,-1,-2`: each page alone, backwards, with two blank sheets
many_sheets : output_in (framed a4 (None)) (settled (written 3 (((item true 0 ([])) ∷ []) ∷ ((item true 1 ([])) ∷ []) ∷ ((item true 2 ([])) ∷ []) ∷ []))) (codes "%!PS\n%%Page: 1 1\na\n%%Page: 2 2\nb") ≡ Ok (codes "%!PS\n%%Pages: 3\n%%Page: 1 1\nuserdict /ImposeSave save put\nuserdict /showpage {} put\n[1 0 0 1 0 0] concat\nnewpath 0 0 moveto 595 0 lineto 595 842 lineto 0 842 lineto closepath clip newpath\na\nImposeSave restore\nshowpage\n%%Page: 2 2\nuserdict /ImposeSave save put\nuserdict /showpage {} put\n[1 0 0 1 0 0] concat\nnewpath 0 0 moveto 595 0 lineto 595 842 lineto 0 842 lineto closepath clip newpath\nb\nImposeSave restore\nshowpage\n%%Page: 3 3\nshowpage\n")
unfolding digits
many_sheets = refl

-- sheets are counted from 1, in decimal: the ninth, the tenth and the millionth, without slots
ninth_sheet : sheet_text (framed a4 None) [] 8 [] ≡ codes "%%Page: 9 9\nshowpage\n"
unfolding digits
ninth_sheet = refl

tenth_sheet : sheet_text (framed a4 None) [] 9 [] ≡ codes "%%Page: 10 10\nshowpage\n"
unfolding digits
tenth_sheet = refl

millionth_sheet : sheet_text (framed a4 None) [] 999_999 [] ≡ codes "%%Page: 1000000 1000000\nshowpage\n"
unfolding digits
millionth_sheet = refl

-- a paper of 21 cm by 29.7 cm: its sides are printed with five decimals
abbrev metric_a4 : Paper
metric_a4 = record { width = pos 75_600_000_000_000; height = pos 106_920_000_000_000 }

edge_in_centimetres : edge_text metric_a4 ≡ codes "newpath 0 0 moveto 595.27559 0 lineto 595.27559 841.88976 lineto 0 841.88976 lineto closepath"
unfolding digits
edge_in_centimetres = refl

-- and a border of a tenth of a millimetre: 0.283464.. points
border_in_millimetres : border_text metric_a4 (border_within (pos 0) (Some (pos 36_000_000_000))) ≡ codes "gsave 0.28346 setlinewidth newpath 0 0 moveto 595.27559 0 lineto 595.27559 841.88976 lineto 0 841.88976 lineto closepath stroke grestore\n"
unfolding digits
border_in_millimetres = refl

-- one of a point, 1 cm within each edge of A4 in whole points
border_in_page : border_text a4 (border_within (pos 3_600_000_000_000) (Some (pos 127_000_000_000))) ≡ codes "gsave 1 setlinewidth newpath 28.34646 28.34646 moveto 566.65354 28.34646 lineto 566.65354 813.65354 lineto 28.34646 813.65354 lineto closepath stroke grestore\n"
unfolding digits
border_in_page = refl

-- without a border there is no line
no_border : border_text a4 None ≡ []
no_border = refl
