-- Which bytes end a key, a line, a field and a count: each byte from 0 to 255 is tried. And which keys are which:
-- each key alone, followed by a colon and by a blank, and beside longer, shorter and other keys that look like it.
use Rattle.std.proofs.Common.{ℕ, List, [], ◌∷◌, ◌++◌, refl, ◌≡◌, map, length, replicate, Bool, true, false}
use Rattle.std.specs.Prelude.{◌==◌, nat_lt, filter, flat_map, codes, Result, Ok, Err}
use Rattle.std.specs.List.{range_with_len, slice_split}
use Rattle.std.specs.Fmt.{digits}
use Rattle.rules.specs.Bytes.{line}
use Rattle.rules.specs.Units.{key, cut, ◌>>=◌, FaultyBlock}
use Rattle.rules.specs.Parts.{nested, pages, trailer}
use Rattle.rules.specs.Filters.{preamble_text, trailer_text, prepared}

abbrev bytes_with : (ℕ → Bool) → List ℕ
bytes_with test = filter test (range_with_len 0 256)

abbrev is_ok : {A E : Type 0} → Result A E → Bool
is_ok (Ok x) = true
is_ok (Err e) = false

abbrev lines : List (List ℕ) → List ℕ
lines texts = flat_map line texts

-- a number that was found, and 0 if a block is faulty
abbrev found : Result ℕ FaultyBlock → ℕ
found (Ok n) = n
found (Err e) = 0

abbrev units_in : List ℕ → ℕ
units_in text = found (cut text >>= λ us. Ok (length us))

abbrev pages_in : List ℕ → ℕ
pages_in text = found (cut text >>= λ us. Ok (length (pages (nested us))))

-- texts with a bar between them
abbrev each : List ℕ → List (List ℕ)
each text = slice_split (λ b. b == 124) text

abbrev trailer_units_in : List ℕ → ℕ
trailer_units_in text = found (cut text >>= λ us. Ok (length (trailer (nested us))))

-- a key alone, and followed by each byte that ends it and more
abbrev forms : List ℕ → List (List ℕ)
forms k = k ∷ (k ++ codes ":") ∷ (k ++ codes ": x") ∷ (k ++ codes " x") ∷ (k ++ codes "\tx") ∷ []

-- ---- bytes
-- a tab, a space and a colon end a key. No other byte does, neither a semicolon, nor a vertical tab (11), a form
-- feed (12), a zero or a non-breaking space (160)
key_ends : bytes_with (λ b. length (key (codes "%%Page" ++ b ∷ codes "1")) == 6) ≡ 9 ∷ 32 ∷ 58 ∷ []
key_ends = refl

-- a key is all of a line without these bytes, and nothing if the line begins with one
whole_key : map key (codes "%%EOF" ∷ codes "" ∷ codes " %%EOF" ∷ codes ":" ∷ codes "\t" ∷ []) ≡ codes "%%EOF" ∷ codes "" ∷ codes "" ∷ codes "" ∷ codes "" ∷ []
whole_key = refl

-- the first of them ends it
first_end_of_key : map key (codes "a: b" ∷ codes "a b:" ∷ codes "a\tb c" ∷ codes "a::b" ∷ []) ≡ replicate 4 (codes "a")
first_end_of_key = refl

-- LF and CR end a line; no other byte does, neither a vertical tab, nor a form feed, nor 133, which ends lines
-- elsewhere
line_ends : bytes_with (λ b. units_in (codes "a" ++ b ∷ codes "b") == 2) ≡ 10 ∷ 13 ∷ []
line_ends = refl

-- a tab and a space separate the fields of a block; no other byte does. Of `Hex` and `Lines` the second is the
-- third field, so the data are one line of four bytes, and the `x` after them is a line of its own
field_ends : bytes_with (λ b. units_in (codes "%%BeginData: 1 Hex" ++ b ∷ codes "Lines\nabc\nx") == 2) ≡ 9 ∷ 32 ∷ []
field_ends = refl

-- also after `Lines`
third_field_ends : bytes_with (λ b. units_in (codes "%%BeginData: 1 Hex Lines" ++ b ∷ codes "\nabc\nx") == 2) ≡ 9 ∷ 13 ∷ 32 ∷ []
third_field_ends = refl

-- ten digits are digits of a count; no other byte is, neither `/` nor `:`, which are next to them
count_digits : bytes_with (λ b. is_ok (cut (codes "%%BeginData: " ++ b ∷ codes "\n123456789"))) ≡ codes "0123456789"
count_digits = refl

-- ---- page and trailer lines
abbrev begins_page : List ℕ → Bool
begins_page content = pages_in (lines (codes "%!PS" ∷ content ∷ [])) == 1

-- a page line has this key, directly followed by a colon
abbrev page_lines : List (List ℕ)
page_lines = each (codes "%%Page:|%%Page: 1 1|%%Page:1|%%Page::|%%Page:\tx")

page_lines_begin_pages : filter begins_page page_lines ≡ page_lines
page_lines_begin_pages = refl

abbrev no_page_lines : List (List ℕ)
no_page_lines = each (
    codes "%%Page|%%Page 1|%%Page : 1|%%Page\t: 1|%%Page;: 1|%%Pages: 1|%%PageX: 1|%%Pag: 1|%%page: 1|"
    ++ codes "%Page: 1|%%%Page: 1| %%Page: 1|x%%Page: 1|%%PageOrder: Ascend|%%PageTrailer:|%%BeginPage: 1")

begin_no_page : filter begins_page no_page_lines ≡ []
begin_no_page = refl

abbrev begins_trailer : List ℕ → Bool
begins_trailer content = nat_lt 0 (trailer_units_in (lines (codes "%!PS" ∷ codes "%%Page: 1 1" ∷ content ∷ [])))

-- a trailer line has one of two keys, whatever ends it
abbrev trailer_lines : List (List ℕ)
trailer_lines = flat_map forms (each (codes "%%Trailer|%%EOF"))

trailer_lines_begin_trailers : filter begins_trailer trailer_lines ≡ trailer_lines
trailer_lines_begin_trailers = refl

abbrev no_trailer_lines : List (List ℕ)
no_trailer_lines = each (
    codes "%%Trailers|%%TrailerX:|%%Traile|%%trailer|%%TRAILER|%%PageTrailer|%Trailer| %%Trailer|%%EOFX|"
    ++ codes "%%EOFs:|%%EO|%%eof|%EOF|%%%EOF| %%EOF|x%%EOF|%%EOF;")

begin_no_trailer : filter begins_trailer no_trailer_lines ≡ []
begin_no_trailer = refl

-- ---- embedded documents
abbrev opens_document : List ℕ → Bool
opens_document content = pages_in (lines (codes "%!PS" ∷ content ∷ codes "%%Page: 1 1" ∷ [])) == 0

abbrev opening_lines : List (List ℕ)
opening_lines = forms (codes "%%BeginDocument")

opening_lines_open : filter opens_document opening_lines ≡ opening_lines
opening_lines_open = refl

abbrev no_opening_lines : List (List ℕ)
no_opening_lines = each (
    codes "%%BeginDocuments: a|%%BeginDocumentX|%%BeginDocumen: a|%%BeginDoc: a|%%begindocument: a|"
    ++ codes "%BeginDocument: a| %%BeginDocument: a|%%BeginFile: a|%%BeginResource: a|%%BeginSetup|"
    ++ codes "%%EndDocument")

open_no_document : filter opens_document no_opening_lines ≡ []
open_no_document = refl

abbrev closes_document : List ℕ → Bool
closes_document content = pages_in (lines (codes "%!PS" ∷ codes "%%BeginDocument: a" ∷ content ∷ codes "%%Page: 1 1" ∷ [])) == 1

abbrev closing_lines : List (List ℕ)
closing_lines = forms (codes "%%EndDocument")

closing_lines_close : filter closes_document closing_lines ≡ closing_lines
closing_lines_close = refl

abbrev no_closing_lines : List (List ℕ)
no_closing_lines = each (
    codes "%%EndDocuments|%%EndDocumentX:|%%EndDocumen|%%EndDoc|%%End|%%enddocument|%EndDocument|"
    ++ codes " %%EndDocument|%%EndFile|%%EndResource|%%Trailer|%%EOF")

close_no_document : filter closes_document no_closing_lines ≡ []
close_no_document = refl

-- 300 documents in one another: a page begins after the last of 300 ends, and none after 299
abbrev nested_documents : (ends : ℕ) → List ℕ
nested_documents ends = lines (codes "%!PS" ∷ replicate 300 (codes "%%BeginDocument: a") ++ replicate ends (codes "%%EndDocument") ++ codes "%%Page: 1 1" ∷ [])

all_documents_closed : pages_in (nested_documents 300) ≡ 1
all_documents_closed = refl

one_document_open : pages_in (nested_documents 299) ≡ 0
one_document_open = refl

-- ---- blocks of data
-- the line and the byte after it are one unit
abbrev begins_block : List ℕ → Bool
begins_block content = units_in (line content ++ codes "x") == 1

abbrev block_lines : List (List ℕ)
block_lines = each (codes "%%BeginData: 1|%%BeginData:1|%%BeginBinary: 1|%%BeginBinary:\t1")

block_lines_begin_blocks : filter begins_block block_lines ≡ block_lines
block_lines_begin_blocks = refl

abbrev no_block_lines : List (List ℕ)
no_block_lines = each (
    codes "%%BeginData 1|%%BeginData : 1|%%BeginData\t: 1|%%BeginDataX: 1|%%BeginDatas: 1|%%BeginDat: 1|"
    ++ codes "%%begindata: 1|%BeginData: 1| %%BeginData: 1|%%BeginBinary 1|%%BeginBinary : 1|"
    ++ codes "%%BeginBinaryX: 1|%%BeginBinar: 1|%%BeginBin: 1|%%beginbinary: 1| %%BeginBinary: 1|"
    ++ codes "%%BeginDocument: 1|%%BeginFile: 1|%%BeginResource: 1|%%Begin: 1|%%EndData: 1|%%EndBinary: 1")

begin_no_block : filter begins_block no_block_lines ≡ []
begin_no_block = refl

-- the line and the line of three bytes after it are one unit; counted in bytes they would be two
abbrev counts_lines : List ℕ → Bool
counts_lines content = units_in (line content ++ codes "ab\n") == 1

-- the third field is `Lines`, whatever the second and the fourth are
abbrev counts_in_lines : List (List ℕ)
counts_in_lines = each (
    codes "%%BeginData: 1 Hex Lines|%%BeginData: 1 Lines Lines|%%BeginData: 1 Bytes Lines Bytes|"
    ++ codes "%%BeginData:1\tx\tLines\t")

data_counted_in_lines : filter counts_lines counts_in_lines ≡ counts_in_lines
data_counted_in_lines = refl

abbrev counts_in_bytes : List (List ℕ)
counts_in_bytes = each (
    codes "%%BeginData: 1|%%BeginData: 1 Hex|%%BeginData: 1 Lines|%%BeginData: 1 Lines Bytes|"
    ++ codes "%%BeginData: 1 Lines Hex|%%BeginData: 1 Hex Bytes|%%BeginData: 1 Hex Bytes Lines|"
    ++ codes "%%BeginData: 1 Hex Line|%%BeginData: 1 Hex lines|%%BeginData: 1 Hex LINES|"
    ++ codes "%%BeginData: 1 Hex LinesX|%%BeginData: 1 Hex Lines:|%%BeginData: 1 Hex xLines|"
    ++ codes "%%BeginBinary: 1 Hex Lines")

data_counted_in_bytes : filter counts_lines counts_in_bytes ≡ []
data_counted_in_bytes = refl

-- ---- what is dropped
-- of a preamble and a trailer six keys
abbrev header_keys : List (List ℕ)
header_keys = flat_map forms (each (
    codes "%%Pages|%%PageOrder|%%BoundingBox|%%HiResBoundingBox|%%DocumentMedia|%%Orientation"))

abbrev no_header_keys : List (List ℕ)
no_header_keys = each (
    codes "%%Page|%%PagesX: 1|%%pages: 1|%%PAGES: 1|%%Pages;: 1|%%PageOrde: Ascend|%%PageOrders: Ascend|"
    ++ codes "%%PageMedia: a|%%PageBoundingBox: 0 0 1 1|%%PageOrientation: Portrait|%%BoundingBo: 1|"
    ++ codes "%%BoundingBoxes: 1|%%boundingbox: 1|%BoundingBox: 1| %%BoundingBox: 1|%%CropBox: 1|"
    ++ codes "%%HiResBoundingBo: 1|%%HiResBoundingBoxX: 1|%%HiresBoundingBox: 1|%%ExactBoundingBox: 1|"
    ++ codes "%%DocumentMedi: a|%%DocumentMedias: a|%%DocumentMediaX|%%DocumentPaperSizes: a|"
    ++ codes "%%DocumentData: Clean7Bit|%%Document: a|%%Media: a|%%Orientatio: Portrait|"
    ++ codes "%%Orientations: Portrait|%%BeginPageSetup|%%EndPageSetup")

abbrev head_in : List (List ℕ) → Result (List ℕ) FaultyBlock
head_in comments = cut (lines (codes "%!PS" ∷ comments ++ codes "%%Page: 1 1" ∷ [])) >>= λ us. Ok (preamble_text 2 (nested us))

abbrev tail_in : List (List ℕ) → Result (List ℕ) FaultyBlock
tail_in comments = cut (lines (codes "%%Page: 1 1" ∷ codes "%%Trailer" ∷ comments)) >>= λ us. Ok (trailer_text (nested us))

header_keys_dropped : head_in header_keys ≡ Ok (lines (codes "%!PS" ∷ codes "%%Pages: 2" ∷ []))
unfolding digits
header_keys_dropped = refl

other_keys_kept : head_in no_header_keys ≡ Ok (lines (codes "%!PS" ∷ codes "%%Pages: 2" ∷ no_header_keys))
unfolding digits
other_keys_kept = refl

header_keys_dropped_from_trailer : tail_in header_keys ≡ Ok (lines (codes "%%Trailer" ∷ []))
header_keys_dropped_from_trailer = refl

other_keys_kept_in_trailer : tail_in no_header_keys ≡ Ok (lines (codes "%%Trailer" ∷ no_header_keys))
other_keys_kept_in_trailer = refl

-- of a page each key that begins with `%%Page`, and two more
abbrev page_keys : List (List ℕ)
page_keys = flat_map forms (each (
    codes "%%Page|%%Pages|%%PageX|%%PageOrder|%%PageBoundingBox|%%PageTrailer|%%Page;|"
    ++ codes "%%BeginPageSetup|%%EndPageSetup"))

abbrev no_page_keys : List (List ℕ)
no_page_keys = each (
    codes "%%Pag|%%Pag e: 1|%%page: 1|%%PAGE: 1|%Page: 1|%%%Page: 1| %%Page: 1|x%%Page: 1|%%BeginPageSetu|"
    ++ codes "%%BeginPageSetups|%%BeginPageSetupX: a|%%BeginPage: 1|%%beginpagesetup|%%BeginSetup|"
    ++ codes "%%EndPageSetu|%%EndPageSetups|%%EndPageSetupX: a|%%EndPage|%%EndSetup|%%BoundingBox: 1|"
    ++ codes "%%HiResBoundingBox: 1|%%DocumentMedia: a|%%Orientation: Portrait|%%Trailer|%%EOF")

page_keys_dropped : prepared (lines page_keys) ≡ Ok []
page_keys_dropped = refl

other_keys_kept_in_page : prepared (lines no_page_keys) ≡ Ok (lines no_page_keys)
other_keys_kept_in_page = refl

-- ---- continued comments
-- a line that begins with `%%+` continues the dropped one before it
abbrev stays_behind_dropped : List ℕ → Bool
stays_behind_dropped content = found (prepared (lines (codes "%%PageMedia: a" ∷ content ∷ [])) >>= λ body. Ok (length body)) == length (line content)

abbrev continuation_lines : List (List ℕ)
continuation_lines = each (codes "%%+|%%+a|%%+ a|%%+: a|%%++|%%+\ta")

continuation_lines_dropped : filter stays_behind_dropped continuation_lines ≡ []
continuation_lines_dropped = refl

abbrev no_continuation_lines : List (List ℕ)
no_continuation_lines = each (codes "|%%|%%-|%+ a|%% + a| %%+ a|%%%+ a|x%%+ a|+ a")

other_lines_end_the_chain : filter stays_behind_dropped no_continuation_lines ≡ no_continuation_lines
other_lines_end_the_chain = refl

-- a chain of three, with ends of all kinds
chain_of_three : prepared (codes "%%PageMedia: a\r\n%%+ b\r%%+ c\n%%+ d\nx\n%%+ e\n") ≡ Ok (codes "x\n%%+ e\n")
chain_of_three = refl

-- an empty line ends a chain
chain_ends_at_empty_line : prepared (codes "%%PageMedia: a\n%%+ b\n\n%%+ c\n") ≡ Ok (codes "\n%%+ c\n")
chain_ends_at_empty_line = refl

-- a dropped line begins a chain again
chain_begins_again : prepared (codes "%%PageMedia: a\nx\n%%PageX\n%%+ b\ny\n") ≡ Ok (codes "x\ny\n")
chain_begins_again = refl
