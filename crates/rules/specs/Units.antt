-- How a DSC text is cut into units: lines, and blocks of data.
-- Lines that end in CR, LF or CR LF, keys and colons are of DSC, comments; blocks of data are of DSC, General Body
-- Comments, %%BeginData and %%BeginBinary. Where they leave room, what is read and what is refused are rules of
-- this project.
use Rattle.std.specs.Prelude.{◌≡◌, ℕ, zero, suc, ◌+◌, ◌<◌, Bool, true, false, not, ◌&&◌, ◌||◌, ◌==◌, nat_eq, nat_lt}
use Rattle.std.specs.Prelude.{if◌then◌else◌, List, [], ◌∷◌, ◌++◌, length, take, drop, filter, flat_map, codes, Result}
use Rattle.std.specs.Prelude.{Ok, Err, Option, Some, None, option_map}
use Rattle.std.specs.List.{starts_with, list_all, list_any, slice_split, take_while}
use Rattle.std.specs.Str.{bytes_eq}
use Rattle.std.specs.Char.{is_ascii_digit}
use Rattle.rules.specs.Bytes.{tab, line_feed, carriage_return, space, colon}
use Rattle.rules.specs.Numbers.{number_of}

-- a line with its end, or a block: a line and the data after it. The content is the line's, without its end
pub record TextUnit : Type 0 where
  pub content : List ℕ
  pub bytes : List ℕ
  pub is_block : Bool

-- what is wrong with a block: its count is no number, or passes the end of the text
pub data BlockFault : Type 0 where
  BadCount : BlockFault
  ShortData : BlockFault

abbrev pub is_end : ℕ → Bool
is_end b = (b == carriage_return) || (b == line_feed)

abbrev pub is_blank : ℕ → Bool
is_blank b = (b == space) || (b == tab)

-- the content of the first line, which is all before its end
abbrev pub content_of : List ℕ → List ℕ
content_of text = take_while (λ b. not (is_end b)) text

-- the length of the end that these bytes begin with: CR LF is one end
abbrev pub end_len : List ℕ → ℕ
end_len [] = 0
end_len (b ∷ rest) = if (b == carriage_return) && starts_with nat_eq rest (line_feed ∷ []) then 2 else 1

-- the length of the first line with its end
abbrev pub line_len : List ℕ → ℕ
line_len text = let n = length (content_of text) in n + end_len (drop n text)

-- the length of the first n lines, if there are that many
abbrev pub lines_len : ℕ → List ℕ → Option ℕ
lines_len zero text = Some 0
lines_len (suc k) [] = None
lines_len (suc k) (b ∷ rest) = let n = line_len (b ∷ rest) in option_map (λ m. n + m) (lines_len k (drop n (b ∷ rest)))

-- the key of a line, by which it is known: its content up to the first space, tab or colon
abbrev pub key : List ℕ → List ℕ
key content = take_while (λ b. not (is_blank b || (b == colon))) content

abbrev pub has_key : List (List ℕ) → List ℕ → Bool
has_key names content = list_any (bytes_eq (key content)) names

-- the key is this one, and a colon follows it directly
abbrev pub is_comment : List ℕ → List ℕ → Bool
is_comment name content = has_key (name ∷ []) content && starts_with nat_eq content (name ++ colon ∷ [])

-- a line with this content begins a block of data
abbrev pub begins_block : List ℕ → Bool
begins_block content = is_comment (codes "%%BeginData") content || is_comment (codes "%%BeginBinary") content

-- the pieces of the content after the colon, cut at blanks, without empty ones
abbrev pub fields : List ℕ → List (List ℕ)
fields content = filter (λ f. nat_lt 0 (length f)) (slice_split is_blank (drop (length (key content) + 1) content))

-- the data of %%BeginData are counted in lines if the third field is `Lines`; all others are counted in bytes
abbrev pub counts_lines : List ℕ → List (List ℕ) → Bool
counts_lines content (count ∷ kind ∷ measure ∷ more) =
    is_comment (codes "%%BeginData") content && bytes_eq measure (codes "Lines")
counts_lines content other = false

-- a missing length means short data
abbrev pub or_short : Option ℕ → Result ℕ BlockFault
or_short None = Err ShortData
or_short (Some k) = Ok k

-- the length of n bytes, if there are that many
abbrev pub bytes_len : ℕ → List ℕ → Option ℕ
bytes_len n text = if nat_lt (length text) n then None else Some n

-- the length of the data after a line with these fields
abbrev pub data_len : List ℕ → List ℕ → List (List ℕ) → Result ℕ BlockFault
data_len content rest [] = Err BadCount
data_len content rest (count ∷ more) =
    let n = number_of count in
    if not (list_all is_ascii_digit count) then Err BadCount
    else or_short (if counts_lines content (count ∷ more) then lines_len n rest else bytes_len n rest)

-- the block of a line of n bytes and data of k more
abbrev pub block : List ℕ → ℕ → Result ℕ BlockFault → Result TextUnit BlockFault
block text n (Err fault) = Err fault
block text n (Ok k) = Ok (record { content = content_of text; bytes = take (n + k) text; is_block = true })

-- the first unit of a text that isn't empty
abbrev pub first_unit : List ℕ → Result TextUnit BlockFault
first_unit text =
    let content = content_of text in
    let n = line_len text in
    if begins_block content then block text n (data_len content (drop n text) (fields content))
    else Ok (record { content = content; bytes = take n text; is_block = false })

-- continues with the result, or keeps the fault
infixl 10 ◌>>=◌
abbrev pub ◌>>=◌ : {A B E : Type 0} → Result A E → (A → Result B E) → Result B E
(Ok x) >>= f = f x
(Err e) >>= f = Err e

-- a faulty block and the byte at which its line begins
pub record FaultyBlock : Type 0 where
  pub at : ℕ
  pub fault : BlockFault

abbrev pub at_byte : {A : Type 0} → ℕ → Result A BlockFault → Result A FaultyBlock
at_byte at (Ok x) = Ok x
at_byte at (Err fault) = Err (record { at = at; fault = fault })

-- the units of a text whose first byte is at this place, or the first faulty block. Each unit has at least one
-- byte, so the number of bytes is the most units there can be
abbrev pub cut_from : (most : ℕ) → (at : ℕ) → List ℕ → Result (List TextUnit) FaultyBlock
cut_from most at [] = Ok []
cut_from zero at (b ∷ bs) = Ok []
cut_from (suc most) at (b ∷ bs) =
    at_byte at (first_unit (b ∷ bs)) >>= λ u.
    cut_from most (at + length u.bytes) (drop (length u.bytes) (b ∷ bs)) >>= λ us. Ok (u ∷ us)

-- the units of a text, or its first faulty block
abbrev pub cut : List ℕ → Result (List TextUnit) FaultyBlock
cut text = cut_from (length text) 0 text

-- the units without a computation: each is the first of what is left, and nothing is left at the end
abbrev pub AreUnits : List ℕ → List TextUnit → Type 0
AreUnits text [] = text ≡ []
AreUnits text (u ∷ us) = (0 < length text) × (first_unit text ≡ Ok u) × AreUnits (drop (length u.bytes) text) us

-- the text begins with these units, and this is what is left after them
abbrev pub BeginsWith : List TextUnit → (text rest : List ℕ) → Type 0
BeginsWith [] text rest = rest ≡ text
BeginsWith (u ∷ us) text rest = (0 < length text) × (first_unit text ≡ Ok u)
    × BeginsWith us (drop (length u.bytes) text) rest

-- the text begins with units, and this block, which is faulty, follows them
pub record IsFirstFault (text : List ℕ) (block : FaultyBlock) : Type 0 where
  pub units : List TextUnit
  pub before : BeginsWith units text (drop block.at text)
  pub within : block.at < length text
  pub faulty : first_unit (drop block.at text) ≡ Err block.fault

-- a law: a text is cut into its units, and only into these
abbrev pub CutIsUnits : Type 0
CutIsUnits = (text : List ℕ) (us : List TextUnit) → (cut text ≡ Ok us → AreUnits text us)
    × (AreUnits text us → cut text ≡ Ok us)

-- a law: a text is refused for its first faulty block, and for nothing else
abbrev pub CutFaults : Type 0
CutFaults = (text : List ℕ) (block : FaultyBlock) → (cut text ≡ Err block → IsFirstFault text block)
    × (IsFirstFault text block → cut text ≡ Err block)

-- a law: the units that a text is cut into, one after the other, are the text
abbrev pub UnitsMakeText : Type 0
UnitsMakeText = (text : List ℕ) (us : List TextUnit) → cut text ≡ Ok us → flat_map (λ u. u.bytes) us ≡ text
