-- The parts of a document: preamble, pages, trailer; or its first fault.
use Rattle.std.proofs.Common.{ℕ, List, [], ◌∷◌, refl, ◌≡◌, map, replicate}
use Rattle.std.specs.Prelude.{codes, Result, Ok, Err}
use Rattle.rules.specs.Units.{◌>>=◌, FaultyBlock, BlockFault, BadCount, ShortData}
use Rattle.rules.specs.Parts.{preamble, pages, trailer, bytes_of}
use Rattle.rules.specs.Run.{document_of, DocumentFault, NotPostScript, NoPages, BadBlock}

abbrev faulty : ℕ → BlockFault → FaultyBlock
faulty at fault = record { at = at; fault = fault }

abbrev parts_in : List ℕ → Result (List ℕ × List (List ℕ) × List ℕ) DocumentFault
parts_in text = document_of text >>= λ us. Ok (bytes_of (preamble us), pages us, bytes_of (trailer us))

-- a first line that would otherwise be a page line is none
page_in_first_line : parts_in (codes "%!%%Page: 1 1\n%%Page: 1 1\nx") ≡ Ok (codes "%!%%Page: 1 1\n", (codes "%%Page: 1 1\nx" ∷ []), codes "")
page_in_first_line = refl

-- `%%Page:` needs nothing after the colon
page_without_label : parts_in (codes "%!PS\n%%Page:\nx\n%%Page:y") ≡ Ok (codes "%!PS\n", (codes "%%Page:\nx\n" ∷ codes "%%Page:y" ∷ []), codes "")
page_without_label = refl

-- `%%Page` that no colon follows directly begins no page
page_without_colon : parts_in (codes "%!PS\n%%Page 1 1\n%%Page : 1\n%%Pages: 1\n%%Page\t: 1\n") ≡ Err (NoPages)
page_without_colon = refl

-- a trailer line before the first page is in the preamble
trailer_before_pages : parts_in (codes "%!PS\n%%Trailer\n%%EOF\n%%Page: 1 1\nx\n") ≡ Ok (codes "%!PS\n%%Trailer\n%%EOF\n", (codes "%%Page: 1 1\nx\n" ∷ []), codes "")
trailer_before_pages = refl

-- a trailer line directly after the page line ends the page
trailer_behind_first_page_line : parts_in (codes "%!PS\n%%Page: 1 1\n%%EOF\n") ≡ Ok (codes "%!PS\n", (codes "%%Page: 1 1\n" ∷ []), codes "%%EOF\n")
trailer_behind_first_page_line = refl

-- a trailer may begin with `%%EOF`, and no page begins in it
end_of_file_first : parts_in (codes "%!PS\n%%Page: 1 1\nx\n%%EOF: y\n%%Trailer\n%%Page: 2 2\n") ≡ Ok (codes "%!PS\n", (codes "%%Page: 1 1\nx\n" ∷ []), codes "%%EOF: y\n%%Trailer\n%%Page: 2 2\n")
end_of_file_first = refl

-- the key alone makes a trailer line
trailer_by_key : parts_in (codes "%!PS\n%%Page: 1 1\n%%TrailerX\n%%Trailer x\ny") ≡ Ok (codes "%!PS\n", (codes "%%Page: 1 1\n%%TrailerX\n" ∷ []), codes "%%Trailer x\ny")
trailer_by_key = refl

-- of two trailer lines the first one begins the trailer, whichever key it has
trailer_before_end_of_file : parts_in (codes "%!PS\n%%Page: 1 1\n%%Trailer\n%%EOF\n") ≡ Ok (codes "%!PS\n", (codes "%%Page: 1 1\n" ∷ []), codes "%%Trailer\n%%EOF\n")
trailer_before_end_of_file = refl

end_of_file_before_trailer : parts_in (codes "%!PS\n%%Page: 1 1\n%%EOF\n%%Trailer\n") ≡ Ok (codes "%!PS\n", (codes "%%Page: 1 1\n" ∷ []), codes "%%EOF\n%%Trailer\n")
end_of_file_before_trailer = refl

-- a trailer line after the second page leaves the first one whole
trailer_behind_second_page : parts_in (codes "%!PS\n%%Page: 1 1\na\n%%Page: 2 2\nb\n%%EOF\n") ≡ Ok (codes "%!PS\n", (codes "%%Page: 1 1\na\n" ∷ codes "%%Page: 2 2\nb\n" ∷ []), codes "%%EOF\n")
trailer_behind_second_page = refl

-- an embedded page line before the first page is in the preamble
embedded_page_in_preamble : parts_in (codes "%!PS\n%%BeginDocument: a\n%%Page: 9 9\n%%EOF\n%%EndDocument\n%%Page: 1 1\n") ≡ Ok (codes "%!PS\n%%BeginDocument: a\n%%Page: 9 9\n%%EOF\n%%EndDocument\n", (codes "%%Page: 1 1\n" ∷ []), codes "")
embedded_page_in_preamble = refl

-- an embedded trailer line begins no trailer
trailer_in_embedded_document : parts_in (codes "%!PS\n%%Page: 1 1\n%%BeginDocument: a\n%%EOF\n%%EndDocument\n%%Page: 2 2\n") ≡ Ok (codes "%!PS\n", (codes "%%Page: 1 1\n%%BeginDocument: a\n%%EOF\n%%EndDocument\n" ∷ codes "%%Page: 2 2\n" ∷ []), codes "")
trailer_in_embedded_document = refl

-- nor does one in data
trailer_in_data : parts_in (codes "%!PS\n%%Page: 1 1\n%%BeginData: 6\n%%EOF\nx") ≡ Ok (codes "%!PS\n", (codes "%%Page: 1 1\n%%BeginData: 6\n%%EOF\nx" ∷ []), codes "")
trailer_in_data = refl

-- a page line in data begins no page
page_in_preambles_data : parts_in (codes "%!PS\n%%BeginData: 12 Binary Bytes\n%%Page: 1 1\n%%EndData\n%%Page: 1 1\n") ≡ Ok (codes "%!PS\n%%BeginData: 12 Binary Bytes\n%%Page: 1 1\n%%EndData\n", (codes "%%Page: 1 1\n" ∷ []), codes "")
page_in_preambles_data = refl

-- in an embedded document without its end no page begins
document_without_end : parts_in (codes "%!PS\n%%Page: 1 1\n%%BeginDocument: a\n%%Page: 2 2\n%%Trailer\n") ≡ Ok (codes "%!PS\n", (codes "%%Page: 1 1\n%%BeginDocument: a\n%%Page: 2 2\n%%Trailer\n" ∷ []), codes "")
document_without_end = refl

-- CR, CR LF and no end at all
carriage_returns : parts_in (codes "%!PS\r%%Page: 1 1\r\n%%Page: 2 2\r%%Trailer") ≡ Ok (codes "%!PS\r", (codes "%%Page: 1 1\r\n" ∷ codes "%%Page: 2 2\r" ∷ []), codes "%%Trailer")
carriage_returns = refl

-- `%!` is enough as a first line
begins_with_two_bytes : parts_in (codes "%!\n%%Page: 1 1") ≡ Ok (codes "%!\n", (codes "%%Page: 1 1" ∷ []), codes "")
begins_with_two_bytes = refl

-- a file must begin with `%!`, not have it later
blank_before_postscript : parts_in (codes " %!PS\n%%Page: 1 1\n") ≡ Err (NotPostScript)
blank_before_postscript = refl

-- a part of `%!` is not enough
one_byte : parts_in (codes "%") ≡ Err (NotPostScript)
one_byte = refl

-- nor are the two bytes the other way round, one of them twice, or none
other_beginnings : map parts_in (codes "!%PS\n%%Page: 1 1\n" ∷ codes "%%!PS\n%%Page: 1 1\n" ∷ codes "\n%!PS\n%%Page: 1 1\n" ∷ codes "" ∷ []) ≡ replicate 4 (Err NotPostScript)
other_beginnings = refl

-- a missing `%!` is reported before a faulty block
not_postscript_first : parts_in (codes "x\n%%BeginData: x\n") ≡ Err (NotPostScript)
not_postscript_first = refl

-- a faulty block is reported before a lack of pages
fault_before_no_pages : parts_in (codes "%!PS\n%%BeginData: x\n") ≡ Err (BadBlock (faulty 5 BadCount))
fault_before_no_pages = refl

-- a faulty block in the trailer refuses the document
fault_in_trailer : parts_in (codes "%!PS\n%%Page: 1 1\n%%EOF\n%%BeginBinary: 1") ≡ Err (BadBlock (faulty 23 ShortData))
fault_in_trailer = refl

-- embedded pages alone are no pages
no_page_in_text : parts_in (codes "%!PS\n%%BeginDocument: a\n%%Page: 1 1\n%%EndDocument\n") ≡ Err (NoPages)
no_page_in_text = refl
