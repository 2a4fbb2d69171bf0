-- What texts name in a document of this many pages, as the code keeps it: pages by their numbers from 1, and 0 for
-- a page that the document lacks.
use Rattle.std.specs.Prelude.{ℕ, ◌-◌, Bool, false, ◌||◌, ◌==◌, if◌then◌else◌, List, [], ◌∷◌, map, flat_map}
use Rattle.std.specs.Prelude.{Option, Some, None, option_map}
use Rattle.std.specs.Borrow.{Bor}
use Rattle.std.specs.List.{slice_split}
use Rattle.rows.specs.declared.found_ranges.ResolvedRange as code
use Rattle.rows.specs.declared.found_ranges.ResolvedRange.TheVariants as found
use Rattle.rules.specs.Rows.{Row}
use Rattle.rules.specs.Ranges.{RangeEnd, Range, BlankPage, FromTo, number_in, has_place, from_to, pieces_of, range_at}

-- the parts of what follows a byte at which a text was cut
abbrev pub parts_left : ℕ → Option (Bor (List ℕ)) → List (List ℕ)
parts_left byte None = []
parts_left byte (Some rest) = slice_split (λ b. b == byte) rest.now

abbrev pub number_found : (pages : ℕ) → RangeEnd → ℕ
number_found pages p = if has_place pages p then number_in pages p else 0

abbrev pub range_found : (first last : ℕ) → code.ResolvedRange
range_found first last = found.FromTo first last

abbrev pub found_in : (pages : ℕ) → Range → code.ResolvedRange
found_in pages BlankPage = found.Blank
found_in pages (FromTo p q) = range_found (number_found pages p) (number_found pages q)

abbrev pub is_missing : code.ResolvedRange → Bool
is_missing found.Blank = false
is_missing (found.FromTo first last) = (first == 0) || (last == 0)

-- the pages from one number to another, counted from 0
abbrev pub pages_from_to : (first last : ℕ) → Row
pages_from_to first last = map (λ k. Some (k - 1)) (from_to first last)

-- its entries, if the document has both ends
abbrev pub entries_found : code.ResolvedRange → Row
entries_found found.Blank = None ∷ []
entries_found (found.FromTo first last) = if (first == 0) || (last == 0) then [] else pages_from_to first last

abbrev pub entries_if : Option code.ResolvedRange → Row
entries_if None = []
entries_if (Some range) = entries_found range

-- the entries of a piece of a text, if it means a range that the document has
abbrev pub piece_found : (pages : ℕ) → List ℕ → Row
piece_found pages piece = entries_if (option_map (found_in pages) (range_at piece))

-- those of all pieces between commas (RULES, 11.1)
abbrev pub row_found : (pages : ℕ) → List ℕ → Row
row_found pages text = flat_map (piece_found pages) (pieces_of text)
