-- The units of a text: the depth before each, and its bytes; or the first faulty block, with its first byte.
use Rattle.std.proofs.Common.{ℕ, List, [], ◌∷◌, map, refl, ◌≡◌}
use Rattle.std.specs.Prelude.{codes, Result, Ok, Err}
use Rattle.rules.specs.Units.{cut, ◌>>=◌, FaultyBlock, BlockFault, BadCount, ShortData}
use Rattle.rules.specs.Parts.{nested}

abbrev faulty : ℕ → BlockFault → FaultyBlock
faulty at fault = record { at = at; fault = fault }

abbrev units_in : List ℕ → Result (List (ℕ × List ℕ)) FaultyBlock
units_in text = cut text >>= λ us. Ok (map (λ u. (u.depth, u.unit.bytes)) (nested us))

-- CR LF is one end; CR CR and LF CR are two; a last line may have no end
ends_of_three_kinds : units_in (codes "%!PS\r\na\r\rb\n\r\nc") ≡ Ok ((0, codes "%!PS\r\n") ∷ (0, codes "a\r") ∷ (0, codes "\r") ∷ (0, codes "b\n") ∷ (0, codes "\r\n") ∷ (0, codes "c") ∷ [])
ends_of_three_kinds = refl

-- after a last end there is no further line
empty_rest : units_in (codes "a\n") ≡ Ok ((0, codes "a\n") ∷ [])
empty_rest = refl

-- an empty text has no unit
empty_text : units_in (codes "") ≡ Ok ([])
empty_text = refl

-- a CR that ends the text is a whole end
cr_at_the_end : units_in (codes "a\r") ≡ Ok ((0, codes "a\r") ∷ [])
cr_at_the_end = refl

-- `Lines` has no effect after `%%BeginBinary`
binary_counts_bytes : units_in (codes "%%BeginBinary: 3 Hex Lines\na\nb\nc\n") ≡ Ok ((0, codes "%%BeginBinary: 3 Hex Lines\na\nb") ∷ (0, codes "\n") ∷ (0, codes "c\n") ∷ [])
binary_counts_bytes = refl

-- `lines` in small letters counts bytes
lines_in_small_letters : units_in (codes "%%BeginData: 3 Hex lines\na\nb\nc\n") ≡ Ok ((0, codes "%%BeginData: 3 Hex lines\na\nb") ∷ (0, codes "\n") ∷ (0, codes "c\n") ∷ [])
lines_in_small_letters = refl

-- `Lines` counts as the third field alone
lines_as_second_field : units_in (codes "%%BeginData: 3 Lines\na\nb\nc\n") ≡ Ok ((0, codes "%%BeginData: 3 Lines\na\nb") ∷ (0, codes "\n") ∷ (0, codes "c\n") ∷ [])
lines_as_second_field = refl

-- a fourth field has no effect
lines_as_fourth_field : units_in (codes "%%BeginData: 1 Hex x Lines\nab\n") ≡ Ok ((0, codes "%%BeginData: 1 Hex x Lines\na") ∷ (0, codes "b\n") ∷ [])
lines_as_fourth_field = refl

-- fields are cut at tabs and spaces, and empty ones do not count
fields_cut_at_tabs : units_in (codes "%%BeginData:\t2 \t Hex\t\tLines \na\r\nb\rc") ≡ Ok ((0, codes "%%BeginData:\t2 \t Hex\t\tLines \na\r\nb\r") ∷ (0, codes "c") ∷ [])
fields_cut_at_tabs = refl

-- the count may follow the colon directly
no_blank_before_count : units_in (codes "%%BeginData:2\nabc") ≡ Ok ((0, codes "%%BeginData:2\nab") ∷ (0, codes "c") ∷ [])
no_blank_before_count = refl

-- `%%BeginData` with a blank before the colon is a line
begin_without_colon : units_in (codes "%%BeginData : 5\nab") ≡ Ok ((0, codes "%%BeginData : 5\n") ∷ (0, codes "ab") ∷ [])
begin_without_colon = refl

-- `%%BeginDataX:` is only a line
begin_with_longer_key : units_in (codes "%%BeginDataX: 5\nab") ≡ Ok ((0, codes "%%BeginDataX: 5\n") ∷ (0, codes "ab") ∷ [])
begin_with_longer_key = refl

-- a block begins at the start of a line
begin_in_mid_line : units_in (codes "x%%BeginData: 5\nab") ≡ Ok ((0, codes "x%%BeginData: 5\n") ∷ (0, codes "ab") ∷ [])
begin_in_mid_line = refl

-- a count of 0 takes no byte
count_of_zero : units_in (codes "%%BeginData: 0\n%%Page: 1 1\n") ≡ Ok ((0, codes "%%BeginData: 0\n") ∷ (0, codes "%%Page: 1 1\n") ∷ [])
count_of_zero = refl

-- nor does a count of 0 lines
count_of_no_lines : units_in (codes "%%BeginData: 0 Hex Lines\nab") ≡ Ok ((0, codes "%%BeginData: 0 Hex Lines\n") ∷ (0, codes "ab") ∷ [])
count_of_no_lines = refl

-- a count is read by its value
count_with_zeros : units_in (codes "%%BeginData: 0000000000000000000002\nabc") ≡ Ok ((0, codes "%%BeginData: 0000000000000000000002\nab") ∷ (0, codes "c") ∷ [])
count_with_zeros = refl

-- a count beyond any number of the machine is too many
count_of_many_digits : units_in (codes "%%BeginData: 99999999999999999999999999\nabc") ≡ Err (faulty 0 ShortData)
count_of_many_digits = refl

-- a count has no sign
count_with_plus : units_in (codes "x\n%%BeginData: +2\nabc") ≡ Err (faulty 2 BadCount)
count_with_plus = refl

-- a count has digits alone
count_with_letter : units_in (codes "%%BeginBinary: 2x\nabc") ≡ Err (faulty 0 BadCount)
count_with_letter = refl

-- also in its first place
count_behind_letter : units_in (codes "%%BeginData: x2\nabc") ≡ Err (faulty 0 BadCount)
count_behind_letter = refl

-- a count has no minus and no dot, and only a blank ends it
count_with_minus : units_in (codes "%%BeginData: -0\nabc") ≡ Err (faulty 0 BadCount)
count_with_minus = refl

count_with_dot : units_in (codes "%%BeginData: 2.0\nabc") ≡ Err (faulty 0 BadCount)
count_with_dot = refl

count_with_colon : units_in (codes "%%BeginData: 2: Hex\nabc") ≡ Err (faulty 0 BadCount)
count_with_colon = refl

colon_before_count : units_in (codes "%%BeginData:: 2\nabc") ≡ Err (faulty 0 BadCount)
colon_before_count = refl

-- a malformed count is reported before missing data
bad_count_of_short_data : units_in (codes "%%BeginData: 9x") ≡ Err (faulty 0 BadCount)
bad_count_of_short_data = refl

-- there must be a count
count_left_out : units_in (codes "%%BeginData: \t\nabc") ≡ Err (faulty 0 BadCount)
count_left_out = refl

-- a begin line without an end has no data
no_line_end_behind_begin : units_in (codes "%%BeginData: 0") ≡ Ok ((0, codes "%%BeginData: 0") ∷ [])
no_line_end_behind_begin = refl

-- as many bytes as the count says, and one more
as_many_bytes : units_in (codes "%%BeginData: 3\nabc") ≡ Ok ((0, codes "%%BeginData: 3\nabc") ∷ [])
as_many_bytes = refl

one_byte_more : units_in (codes "%%BeginBinary: 3\nabcd") ≡ Ok ((0, codes "%%BeginBinary: 3\nabc") ∷ (0, codes "d") ∷ [])
one_byte_more = refl

-- one byte less than the count says
one_byte_too_few : units_in (codes "%%BeginData: 3\nab") ≡ Err (faulty 0 ShortData)
one_byte_too_few = refl

-- also in binary data
one_binary_byte_too_few : units_in (codes "%%BeginBinary: 3\nab") ≡ Err (faulty 0 ShortData)
one_binary_byte_too_few = refl

-- as many lines as the count says, and one more; an empty line is one
as_many_lines : units_in (codes "%%BeginData: 2 Hex Lines\n\nab\n") ≡ Ok ((0, codes "%%BeginData: 2 Hex Lines\n\nab\n") ∷ [])
as_many_lines = refl

one_line_more : units_in (codes "%%BeginData: 2 Hex Lines\n\r\n\r\r") ≡ Ok ((0, codes "%%BeginData: 2 Hex Lines\n\r\n\r") ∷ (0, codes "\r") ∷ [])
one_line_more = refl

-- lines beyond any number of the machine are too many
many_lines_too_few : units_in (codes "%%BeginData: 99999999999999999999999999 Hex Lines\nab\n") ≡ Err (faulty 0 ShortData)
many_lines_too_few = refl

-- one line less than the count says: after a last end there is no line
one_line_too_few : units_in (codes "%%BeginData: 2 Hex Lines\nab\n") ≡ Err (faulty 0 ShortData)
one_line_too_few = refl

-- a last line without an end is a line
last_data_line_without_end : units_in (codes "%%BeginData: 2 Hex Lines\nab\nc") ≡ Ok ((0, codes "%%BeginData: 2 Hex Lines\nab\nc") ∷ [])
last_data_line_without_end = refl

-- where the data end in CR, an LF after them is an empty line
data_end_in_cr : units_in (codes "%%BeginData: 2\na\r\nb") ≡ Ok ((0, codes "%%BeginData: 2\na\r") ∷ (0, codes "\n") ∷ (0, codes "b") ∷ [])
data_end_in_cr = refl

-- the data begin after CR LF
begin_line_ends_in_cr_lf : units_in (codes "%%BeginData: 2\r\n\nab") ≡ Ok ((0, codes "%%BeginData: 2\r\n\na") ∷ (0, codes "b") ∷ [])
begin_line_ends_in_cr_lf = refl

-- the data begin after CR, and may begin with anything but LF
begin_line_ends_in_cr : units_in (codes "%%BeginData: 2\rabc") ≡ Ok ((0, codes "%%BeginData: 2\rab") ∷ (0, codes "c") ∷ [])
begin_line_ends_in_cr = refl

-- data are not looked into
block_in_block : units_in (codes "%%BeginData: 17\n%%BeginData: 99\n\nx") ≡ Ok ((0, codes "%%BeginData: 17\n%%BeginData: 99\n\n") ∷ (0, codes "x") ∷ [])
block_in_block = refl

-- the data end in a begin line, which begins no block: 9 bytes of it are data, and the rest is a line
data_end_in_begin_line : units_in (codes "a\n%%BeginData: 9\n%%BeginData: x\n") ≡ Ok ((0, codes "a\n") ∷ (0, codes "%%BeginData: 9\n%%BeginDa") ∷ (0, codes "ta: x\n") ∷ [])
data_end_in_begin_line = refl

-- of two faults the first one is reported
bad_count_before_short_data : units_in (codes "a\n%%BeginData: x\n%%BeginBinary: 99\n") ≡ Err (faulty 2 BadCount)
bad_count_before_short_data = refl

-- in either order
short_data_before_bad_count : units_in (codes "a\r\n%%BeginBinary: 99\n%%BeginData: x\n") ≡ Err (faulty 3 ShortData)
short_data_before_bad_count = refl

-- a fault after a block is reported where its own line begins
fault_behind_block : units_in (codes "%%BeginData: 2\nab%%BeginData: x\n") ≡ Err (faulty 17 BadCount)
fault_behind_block = refl

-- a block in an embedded document is a block
fault_in_embedded_document : units_in (codes "%%BeginDocument: a\n%%BeginData: x\n") ≡ Err (faulty 19 BadCount)
fault_in_embedded_document = refl

-- depth rises after the line that begins a document and falls after the line that ends it
depth_counts : units_in (codes "%%BeginDocument: a\n%%BeginDocument\tb\nx\n%%EndDocument\n%%EndDocument\ny\n") ≡ Ok ((0, codes "%%BeginDocument: a\n") ∷ (1, codes "%%BeginDocument\tb\n") ∷ (2, codes "x\n") ∷ (2, codes "%%EndDocument\n") ∷ (1, codes "%%EndDocument\n") ∷ (0, codes "y\n") ∷ [])
depth_counts = refl

-- an end without a beginning has no effect
depth_stays_at_zero : units_in (codes "%%EndDocument\n%%EndDocument\n%%BeginDocument: a\nx\n") ≡ Ok ((0, codes "%%EndDocument\n") ∷ (0, codes "%%EndDocument\n") ∷ (0, codes "%%BeginDocument: a\n") ∷ (1, codes "x\n") ∷ [])
depth_stays_at_zero = refl

-- a block has the depth of a line in its place
depth_of_block : units_in (codes "%%BeginDocument\n%%BeginData: 1\nx%%EndDocument\n%%BeginData: 1\ny") ≡ Ok ((0, codes "%%BeginDocument\n") ∷ (1, codes "%%BeginData: 1\nx") ∷ (1, codes "%%EndDocument\n") ∷ (0, codes "%%BeginData: 1\ny") ∷ [])
depth_of_block = refl

-- the end of a document in data has no effect
end_of_document_in_data : units_in (codes "%%BeginDocument\n%%BeginData: 14\n%%EndDocument\nx") ≡ Ok ((0, codes "%%BeginDocument\n") ∷ (1, codes "%%BeginData: 14\n%%EndDocument\n") ∷ (1, codes "x") ∷ [])
end_of_document_in_data = refl

-- nor has a beginning in data
depth_in_data : units_in (codes "%%BeginData: 19\n%%BeginDocument: a\n\nx") ≡ Ok ((0, codes "%%BeginData: 19\n%%BeginDocument: a\n") ∷ (0, codes "\n") ∷ (0, codes "x") ∷ [])
depth_in_data = refl

-- a longer key is another key
depth_by_whole_key : units_in (codes "%%BeginDocumentX: a\nx\n") ≡ Ok ((0, codes "%%BeginDocumentX: a\n") ∷ (0, codes "x\n") ∷ [])
depth_by_whole_key = refl
