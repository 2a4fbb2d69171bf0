-- Ranges: a row as a text names it. The signs are those of psselect(1), option -p; the words `blank` and `last`,
-- and what is refused, are rules of this project.
use Rattle.std.specs.Prelude.{◌≡◌, ◌↔◌, ◌⊎◌, ℕ, ◌+◌, ◌-◌, ◌<◌, ◌≤◌, Bool, true, false, ◌&&◌, ◌||◌, ◌==◌, nat_le}
use Rattle.std.specs.Prelude.{if◌then◌else◌, List, [], ◌∷◌, ◌++◌, map, flat_map, reverse, codes, Option, Some}
use Rattle.std.specs.Prelude.{None, option_map, option_and_then}
use Rattle.std.specs.List.{range_with_len, list_all, slice_split}
use Rattle.std.specs.Str.{bytes_eq}
use Rattle.std.specs.Char.{is_ascii_digit}
use Rattle.rules.specs.Bytes.{comma, minus_sign}
use Rattle.rules.specs.Numbers.{number_of}
use Rattle.rules.specs.Specification.{IsJoined, IsDigits}
use Rattle.rules.specs.Signatures.{entry_of}
use Rattle.rules.specs.Rows.{Row, all_pages}

-- a page by its number, from the start of the document or from its end. Both are counted from 1
pub data RangeEnd : Type 0 where
  FromStart : (number : ℕ) → RangeEnd
  FromEnd : (number : ℕ) → RangeEnd

-- a blank page; or the pages from one to another, up or down
pub data Range : Type 0 where
  BlankPage : Range
  FromTo : (first last : RangeEnd) → Range

abbrev pub underscore : ℕ
underscore = 95

-- the last page of a document
abbrev pub the_last : RangeEnd
the_last = FromEnd 1

-- ---- texts

-- the text means this place: digits, of which only the value counts; an underscore and digits; or `last` (RULES, 11.1)
abbrev pub IsPlace : List ℕ → RangeEnd → Type 0
IsPlace text (FromStart k) = IsDigits text k
IsPlace text (FromEnd k) =
    ((digits : List ℕ) × (text ≡ underscore ∷ digits) × IsDigits digits k)
    ⊎ ((text ≡ codes "last") × (k ≡ 1))

-- a text means a range: `blank` or a lone underscore; a place; or two places with a minus sign between them. Without
-- the second it ends at the last page
abbrev pub IsRange : List ℕ → Range → Type 0
IsRange text BlankPage = (text ≡ codes "blank") ⊎ (text ≡ underscore ∷ [])
IsRange text (FromTo p q) =
    (IsPlace text p × (q ≡ p))
    ⊎ ((first second : List ℕ) × (text ≡ first ++ minus_sign ∷ second) × IsPlace first p
    × (IsPlace second q ⊎ ((second ≡ []) × (q ≡ the_last))))

-- ranges, at least one, with commas between them
abbrev pub AreRanges : List ℕ → List Range → Type 0
AreRanges text ranges = IsJoined comma IsRange text ranges

-- ---- reading them

abbrev pub is_number : List ℕ → Bool
is_number [] = false
is_number (b ∷ digits) = list_all is_ascii_digit (b ∷ digits)

-- the place of such digits
abbrev pub by_digits : (ℕ → RangeEnd) → List ℕ → Option RangeEnd
by_digits place digits = if is_number digits then Some (place (number_of digits)) else None

abbrev pub place_at : List ℕ → Option RangeEnd
place_at [] = None
place_at (b ∷ rest) =
    if bytes_eq (b ∷ rest) (codes "last") then Some the_last
    else (if b == underscore then by_digits FromEnd rest else by_digits FromStart (b ∷ rest))

abbrev pub last_place_at : List ℕ → Option RangeEnd
last_place_at [] = Some the_last
last_place_at (b ∷ rest) = place_at (b ∷ rest)

-- the range of the pieces between minus signs
abbrev pub range_of : List (List ℕ) → Option Range
range_of (first ∷ []) = option_map (λ p. FromTo p p) (place_at first)
range_of (first ∷ second ∷ []) =
    option_and_then (λ p. option_map (λ q. FromTo p q) (last_place_at second)) (place_at first)
range_of other = None

abbrev pub is_blank_page : List ℕ → Bool
is_blank_page text = bytes_eq text (codes "blank") || bytes_eq text (underscore ∷ [])

abbrev pub range_at : List ℕ → Option Range
range_at text =
    if is_blank_page text then Some BlankPage else range_of (slice_split (λ b. b == minus_sign) text)

-- the ranges of these pieces, if each is one
abbrev pub ranges_in : List (List ℕ) → Option (List Range)
ranges_in [] = Some []
ranges_in (piece ∷ pieces) =
    option_and_then (λ r. option_map (λ rs. r ∷ rs) (ranges_in pieces)) (range_at piece)

-- the pieces between commas
abbrev pub pieces_of : List ℕ → List (List ℕ)
pieces_of text = slice_split (λ b. b == comma) text

-- the ranges that a text means
abbrev pub ranges_of : List ℕ → Option (List Range)
ranges_of text = ranges_in (pieces_of text)

-- a law: reading a text gives its meaning, and every meaning is read; so a text means at most one list of ranges
abbrev pub RangesAreRead : Type 0
RangesAreRead = (text : List ℕ) (ranges : List Range) → AreRanges text ranges ↔ (ranges_of text ≡ Some ranges)

-- ---- what they name in a document of this many pages

-- the number of a page, counted from 1
abbrev pub number_in : (pages : ℕ) → RangeEnd → ℕ
number_in pages (FromStart k) = k
number_in pages (FromEnd k) = pages + 1 - k

-- the document has it
abbrev pub has_place : (pages : ℕ) → RangeEnd → Bool
has_place pages (FromStart k) = nat_le 1 k && nat_le k pages
has_place pages (FromEnd k) = nat_le 1 k && nat_le k pages

abbrev pub has_range : (pages : ℕ) → Range → Bool
has_range pages BlankPage = true
has_range pages (FromTo p q) = has_place pages p && has_place pages q

-- the numbers from one to another, up or down
abbrev pub from_to : (first last : ℕ) → List ℕ
from_to first last =
    if nat_le first last then map (λ i. first + i) (range_with_len 0 (last - first + 1))
    else map (λ i. first - i) (range_with_len 0 (first - last + 1))

-- the entries of a range
abbrev pub entries_of : (pages : ℕ) → Range → Row
entries_of pages BlankPage = None ∷ []
entries_of pages (FromTo p q) = map (λ k. Some (k - 1)) (from_to (number_in pages p) (number_in pages q))

-- the row that ranges name: their entries, in the order in which they are named, and as often
abbrev pub row_named : (pages : ℕ) → List Range → Row
row_named pages ranges = flat_map (entries_of pages) ranges

-- a law: `1-` is all pages, `last-1` is all of them backwards, and `_k` is the k-th from the end
abbrev pub RangesOfAll : Type 0
RangesOfAll = (n : ℕ) → 0 < n →
    (row_named n (FromTo (FromStart 1) the_last ∷ []) ≡ all_pages n)
    × (row_named n (FromTo the_last (FromStart 1) ∷ []) ≡ reverse (all_pages n))
    × ((k : ℕ) → 0 < k → k ≤ n
    → row_named n (FromTo (FromEnd k) (FromEnd k) ∷ []) ≡ entry_of (reverse (all_pages n)) (k - 1) ∷ [])
