-- The fields of a line, and the data that a count asks for.
use Rattle.std.specs.Prelude.{ℕ, List, [], ◌∷◌, length, filter, Result, Err, nat_lt, Bool, false, not, ◌&&◌, codes}
use Rattle.std.specs.Prelude.{if◌then◌else◌}
use Rattle.std.specs.List.{slice_split, list_all}
use Rattle.std.specs.Str.{bytes_eq}
use Rattle.std.specs.Char.{is_ascii_digit}
use Rattle.rules.specs.Numbers.{number_of}
use Rattle.rules.specs.Units.{is_blank, BlockFault, BadCount, or_short, lines_len, bytes_len}

-- the pieces between blanks that aren't empty
abbrev pub fields_in : List ℕ → List (List ℕ)
fields_in text = filter (λ f. nat_lt 0 (length f)) (slice_split is_blank text)

-- the second of these fields is this one (the first of the line's fields has been read)
abbrev pub third_is : List ℕ → List (List ℕ) → Bool
third_is name (b ∷ c ∷ more) = bytes_eq c name
third_is name other = false

-- the length of n lines or n bytes, if there are that many
abbrev pub block_len : Bool → ℕ → List ℕ → Result ℕ BlockFault
block_len in_lines n rest = or_short (if in_lines then lines_len n rest else bytes_len n rest)

-- the length of the data of a block with these fields
abbrev pub data_in : Bool → List ℕ → List (List ℕ) → Result ℕ BlockFault
data_in may_count_lines rest [] = Err BadCount
data_in may_count_lines rest (count ∷ more) =
    if not (list_all is_ascii_digit count) then Err BadCount
    else block_len (may_count_lines && third_is (codes "Lines") more) (number_of count) rest
