-- Words of a command line of pstops as they are written for a shell.
use Rattle.std.specs.Prelude.{◌++◌, ◌==◌, ◌+◌, ◌/◌, ◌%◌, ◌||◌, ◌&&◌, nat_le, ℕ, ℤ, pos, int_lt, nat_abs, nat_eq, nat_lt, if◌then◌else◌, Bool, List, [], ◌∷◌, flat_map, Option, Some, None, codes, decimal}
use Rattle.std.specs.List.{starts_with}
use Rattle.std.specs.Str.{chars}
use Rattle.std.specs.Char.{encode_utf8}
use Rattle.rules.specs.Numbers.{greatest_number, number_text}

-- ---- lengths

-- a length as a number of 10^-9 of a unit, which is so many grains in 10^-9; if it is one, and none that is too large
abbrev pub in_units : (length : ℤ) → (grains : ℕ) → Option ℤ
in_units z grains = if int_lt z (pos 0) then None
    else (if nat_abs z % grains == 0
    then (if nat_lt greatest_number (nat_abs z / grains) then None else Some (pos (nat_abs z / grains)))
    else None)

abbrev pub in_unit : Option ℤ → (unit other : List ℕ) → List ℕ
in_unit None unit other = other
in_unit (Some number) unit other = number_text number ++ unit

-- in the first unit of which it is such a number
abbrev pub length_text : (length : ℤ) → List ℕ
length_text z = in_unit (in_units z 127) (codes "pt")
    (in_unit (in_units z 360) (codes "mm")
    (in_unit (in_units z 9_144) (codes "in")
    (in_unit (in_units z 3_600) (codes "cm") [])))

-- ---- words

abbrev pub text_if : Bool → List ℕ → List ℕ
text_if said text = if said then text else []

abbrev pub begins_with_minus : List ℕ → Bool
begins_with_minus text = starts_with nat_eq text (codes "-")

-- from the first of these to the last
abbrev pub is_within : (first last c : ℕ) → Bool
is_within first last c = nat_le first c && nat_le c last

-- a character that isn't seen itself, and may change how others are: a control character (Unicode, 23.1), or one that says in
-- which direction text goes (Unicode, UAX 9, 2)
abbrev pub is_hidden : (c : ℕ) → Bool
is_hidden c = is_within 0 31 c || (is_within 127 159 c || (c == 1_564 || (is_within 8_206 8_207 c
    || (is_within 8_234 8_238 c || is_within 8_294 8_297 c))))

-- a byte by its three octal digits, after a backslash
abbrev pub octal_byte : ℕ → List ℕ
octal_byte b = 92 ∷ (48 + b / 64) ∷ (48 + b / 8 % 8) ∷ (48 + b % 8) ∷ []

-- A character within quotes. A quote ends them, is written by itself, and begins them again. So does a hidden character, whose bytes
-- are named in quotes after a dollar sign (POSIX.1-2024, Shell Command Language, 2.2.4).
abbrev pub quoted_char : (c : ℕ) → List ℕ
quoted_char c = if c == 39 then 39 ∷ 92 ∷ 39 ∷ 39 ∷ []
    else (if is_hidden c then codes "'$'" ++ flat_map octal_byte (encode_utf8 c) ++ codes "''" else encode_utf8 c)

-- a file's name in quotes, after a blank, which isn't to be taken for an option
abbrev pub file_text : (name : List ℕ) → List ℕ
file_text name = codes " '" ++ text_if (begins_with_minus name) (codes "./") ++ flat_map quoted_char (chars name) ++ codes "'"

-- pstops has no word for standard input but a file of the system's
abbrev pub files_text : (infile outfile : Option (List ℕ)) → List ℕ
files_text None None = []
files_text (Some infile) None = file_text infile
files_text None (Some outfile) = file_text (codes "/dev/stdin") ++ file_text outfile
files_text (Some infile) (Some outfile) = file_text infile ++ file_text outfile

abbrev pub sides_option : Option ℕ → List ℕ
sides_option None = []
sides_option (Some sides) = codes " -s " ++ decimal sides

abbrev pub border_option : Option ℤ → List ℕ
border_option None = []
border_option (Some width) = codes " -d " ++ length_text width
