-- What is left of preamble, trailer and page bodies.
use Rattle.std.proofs.Common.{ℕ, List, [], ◌∷◌, ◌++◌, refl, ◌≡◌}
use Rattle.std.specs.Prelude.{codes, Result, Ok, Err}
use Rattle.std.specs.Fmt.{digits}
use Rattle.rules.specs.Units.{cut, ◌>>=◌, FaultyBlock, BlockFault, BadCount, ShortData}
use Rattle.rules.specs.Parts.{nested}
use Rattle.rules.specs.Filters.{preamble_text, trailer_text, prepared}

abbrev faulty : ℕ → BlockFault → FaultyBlock
faulty at fault = record { at = at; fault = fault }

abbrev head_in : ℕ → List ℕ → Result (List ℕ) FaultyBlock
head_in n text = cut text >>= λ us. Ok (preamble_text n (nested us))

abbrev tail_in : List ℕ → Result (List ℕ) FaultyBlock
tail_in text = cut text >>= λ us. Ok (trailer_text (nested us))

-- a preamble of one line, and a count of no sheets
first_line_alone : head_in 0 (codes "%!PS\n%%Page: 1 1\n") ≡ Ok (codes "%!PS\n%%Pages: 0\n")
unfolding digits
first_line_alone = refl

-- the count has no leading zeros
count_of_many_digits : head_in 1000000 (codes "%!PS\r\n%%Page: 1 1\n") ≡ Ok (codes "%!PS\r\n%%Pages: 1000000\n")
unfolding digits
count_of_many_digits = refl

-- six keys are dropped, whatever follows them
all_header_keys : head_in 2 (codes "%!PS\n%%Pages 3\n%%PageOrder: Ascend\n%%BoundingBox\n%%HiResBoundingBox: 1\n%%DocumentMedia: a\n%%Orientation\tx\nx\n%%Page: 1 1\n") ≡ Ok (codes "%!PS\n%%Pages: 2\nx\n")
unfolding digits
all_header_keys = refl

-- a key that only begins or ends with one of these stays, and so does `%%Page` without a colon
other_keys_stay : head_in 2 (codes "%!PS\n%%PagesX\n%%BoundingBoxes: 1\n%%Page 1\n%%BoundingBo\n %%Pages: 1\n%Pages: 1\n%%Page: 1 1\n") ≡ Ok (codes "%!PS\n%%Pages: 2\n%%PagesX\n%%BoundingBoxes: 1\n%%Page 1\n%%BoundingBo\n %%Pages: 1\n%Pages: 1\n")
unfolding digits
other_keys_stay = refl

-- a dropped `%%+` line drops the next one; a kept line ends the chain
continuation_chain : head_in 1 (codes "%!PS\n%%BoundingBox: 1\n%%+ a\n%%+b\n%%EndComments\n%%+ c\n%%Page: 1 1\n") ≡ Ok (codes "%!PS\n%%Pages: 1\n%%EndComments\n%%+ c\n")
unfolding digits
continuation_chain = refl

-- a `%%+` line after a kept line stays
continuation_of_kept_line : head_in 1 (codes "%!PS\n%%Title: a\n%%+ b\n%%Pages: 1\n%%+\n%%Page: 1 1\n") ≡ Ok (codes "%!PS\n%%Pages: 1\n%%Title: a\n%%+ b\n")
unfolding digits
continuation_of_kept_line = refl

-- a data block ends the chain
continuation_behind_data : head_in 1 (codes "%!PS\n%%Pages: 1\n%%BeginData: 2\nab%%+ c\n%%Page: 1 1\n") ≡ Ok (codes "%!PS\n%%Pages: 1\n%%BeginData: 2\nab%%+ c\n")
unfolding digits
continuation_behind_data = refl

-- the first `%%+` line stays, though the count is put in before it
continuation_behind_count : head_in 1 (codes "%!PS\n%%+ a\n%%Page: 1 1\n") ≡ Ok (codes "%!PS\n%%Pages: 1\n%%+ a\n")
unfolding digits
continuation_behind_count = refl

-- comments of an embedded document stay
embedded_header : head_in 1 (codes "%!PS\n%%BeginDocument: a\n%%BoundingBox: 1\n%%+ 2\n%%EndDocument\n%%BoundingBox: 2\n%%Page: 1 1\n") ≡ Ok (codes "%!PS\n%%Pages: 1\n%%BeginDocument: a\n%%BoundingBox: 1\n%%+ 2\n%%EndDocument\n")
unfolding digits
embedded_header = refl

-- LF is added after data that the page line follows directly
data_at_the_end : head_in 1 (codes "%!PS\n%%BeginData: 2\nab%%Page: 1 1\n") ≡ Ok (codes "%!PS\n%%Pages: 1\n%%BeginData: 2\nab\n")
unfolding digits
data_at_the_end = refl

-- LF is added after filtering
data_before_dropped_line : head_in 1 (codes "%!PS\n%%BeginData: 2\nab%%Pages: 1\n%%Page: 1 1\n") ≡ Ok (codes "%!PS\n%%Pages: 1\n%%BeginData: 2\nab\n")
unfolding digits
data_before_dropped_line = refl

-- data that end in CR need no LF
data_end_in_cr_at_the_end : head_in 1 (codes "%!PS\n%%BeginData: 2\na\r%%Page: 1 1\n") ≡ Ok (codes "%!PS\n%%Pages: 1\n%%BeginData: 2\na\r")
unfolding digits
data_end_in_cr_at_the_end = refl

-- each kept line keeps its own end, and the count has LF
ends_stay : head_in 3 (codes "%!PS\r%%Pages: 1\r\n/x\r\n/y\n%%Page: 1 1\n") ≡ Ok (codes "%!PS\r%%Pages: 3\n/x\r\n/y\n")
unfolding digits
ends_stay = refl

-- a trailer is filtered as a header, without a count
trailer_filter : tail_in (codes "%!PS\n%%Page: 1 1\n%%Trailer\n%%+ a\n%%Pages: 1\n%%+ b\n%%BoundingBox: 1\n%%EOF\n") ≡ Ok (codes "%%Trailer\n%%+ a\n%%EOF\n")
trailer_filter = refl

-- nothing is added to a trailer
trailer_without_end : tail_in (codes "%!PS\n%%Page: 1 1\n%%EOF") ≡ Ok (codes "%%EOF")
trailer_without_end = refl

-- no trailer is no text
no_trailer : tail_in (codes "%!PS\n%%Page: 1 1\nx") ≡ Ok (codes "")
no_trailer = refl

-- a page line in a trailer stays
trailer_with_pages : tail_in (codes "%!PS\n%%Page: 1 1\n%%Trailer\n%%Page: 2 2\n%%PageTrailer\n") ≡ Ok (codes "%%Trailer\n%%Page: 2 2\n%%PageTrailer\n")
trailer_with_pages = refl

-- a page of its line alone has an empty body
empty_page : prepared (codes "%%Page: 1 1") ≡ Ok (codes "")
empty_page = refl

-- LF is not added to a body that filtering made empty
page_of_dropped_lines : prepared (codes "%%Page: 1 1\n%%PageTrailer\n%%+ x") ≡ Ok (codes "")
page_of_dropped_lines = refl

-- every key that begins with `%%Page` is dropped
all_page_keys : prepared (codes "%%Page: 1 1\n%%PageFonts: a\n%%+ b\n%%Page\n%%Pages: 1\n%%PageX\n%%BeginPageSetup x\n%%EndPageSetup:\nx\n") ≡ Ok (codes "x\n")
all_page_keys = refl

-- other keys stay, including header and trailer lines
other_page_keys_stay : prepared (codes "%%BeginPageSetupX\n%%BoundingBox: 1\n%%Trailer\n%%EOF\n%%pages\n%Page\n") ≡ Ok (codes "%%BeginPageSetupX\n%%BoundingBox: 1\n%%Trailer\n%%EOF\n%%pages\n%Page\n")
other_page_keys_stay = refl

-- the text need not begin with a page line, and a `%%+` line at its start stays
no_page_line : prepared (codes "%%+ a\nx\r") ≡ Ok (codes "%%+ a\nx\r")
no_page_line = refl

-- a page line in it is dropped too
second_page_line : prepared (codes "x\n%%Page: 2 2\ny\n") ≡ Ok (codes "x\ny\n")
second_page_line = refl

-- depth begins at 0, so the end of a document without a beginning has no effect
own_depth : prepared (codes "%%EndDocument\n%%PageTrailer\n%%BeginDocument: a\n%%PageTrailer\n") ≡ Ok (codes "%%EndDocument\n%%BeginDocument: a\n%%PageTrailer\n")
own_depth = refl

-- LF is added after data at the end
body_ends_in_data : prepared (codes "%%Page: 1 1\n%%BeginData: 3\n%%P") ≡ Ok (codes "%%BeginData: 3\n%%P\n")
body_ends_in_data = refl

-- CR LF at the end stays as it is
body_ends_in_cr_lf : prepared (codes "%%Page: 1 1\r\nx\r\n") ≡ Ok (codes "x\r\n")
body_ends_in_cr_lf = refl

-- so does CR
body_ends_in_cr : prepared (codes "%%Page: 1 1\rx\r") ≡ Ok (codes "x\r")
body_ends_in_cr = refl

-- a form feed at the end is no line end
body_ends_in_form_feed : prepared (codes "x" ++ 12 ∷ []) ≡ Ok (codes "x" ++ 12 ∷ 10 ∷ [])
body_ends_in_form_feed = refl

-- a body of one LF or CR alone stays as it is
lone_line_feed : prepared (codes "\n") ≡ Ok (codes "\n")
lone_line_feed = refl

lone_carriage_return : prepared (codes "%%Page: 1 1\n\r") ≡ Ok (codes "\r")
lone_carriage_return = refl

-- an empty line is a line that stays
empty_lines : prepared (codes "%%Page: 1 1\n\n\r\r\n") ≡ Ok (codes "\n\r\r\n")
empty_lines = refl

-- data with page lines in them are kept
data_kept_whole : prepared (codes "%%Page: 1 1\n%%BeginBinary: 13\n%%PageTrailer%%PageTrailer\n%%+ x\n") ≡ Ok (codes "%%BeginBinary: 13\n%%PageTrailer\n")
data_kept_whole = refl

-- a faulty block refuses the page
fault_in_page : prepared (codes "x\n%%BeginData: x\n") ≡ Err (faulty 2 BadCount)
fault_in_page = refl

-- and so does a short one
short_page : prepared (codes "%%BeginBinary: 1") ≡ Err (faulty 0 ShortData)
short_page = refl
