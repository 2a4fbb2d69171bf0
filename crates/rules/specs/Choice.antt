-- What is imposed: which pages are chosen, how a row is made of them, and why there is none. These are rules of
-- this project.
use Rattle.std.specs.Prelude.{ℕ, ◌+◌, ◌*◌, Bool, ◌==◌, nat_lt, if◌then◌else◌, List, [], ◌∷◌, length, reverse, Option}
use Rattle.std.specs.Prelude.{Some, None, Result, Ok, Err}
use Rattle.rules.specs.Units.{◌>>=◌}
use Rattle.rules.specs.Run.{most_pages, refuse_if}
use Rattle.rules.specs.Rows.{Row, all_pages, odd_part, even_part, in_order_of, leaves_for, auto_sides}
use Rattle.rules.specs.Ranges.{Range, range_at, pieces_of, has_range, entries_of, row_named}

-- the most entries of a row (RULES, 11.1)
abbrev pub most_entries : ℕ
most_entries = most_pages

-- why there is no row. Something that isn't a range begins at this byte of the text; or the range there has a page
-- that the document lacks; or it exceeds the limit of entries. Or no entry is left (RULES, 16, steps 5 and 11)
pub data RowFault : Type 0 where
  NotARange : (at : ℕ) → RowFault
  NotInDocument : (at : ℕ) → RowFault
  TooManyEntries : (at : ℕ) → RowFault
  NoEntries : RowFault

-- a range, and the byte of the text at which it begins
pub record Standing : Type 0 where
  pub at : ℕ
  pub range : Range

abbrev pub or_fault : (at : ℕ) → Option Range → Result Range RowFault
or_fault at None = Err (NotARange at)
or_fault at (Some range) = Ok range

-- the ranges of these pieces, the first of which begins at this byte; a comma separates each two
abbrev pub standing_from : (at : ℕ) → List (List ℕ) → Result (List Standing) RowFault
standing_from at [] = Ok []
standing_from at (piece ∷ pieces) =
    or_fault at (range_at piece) >>= λ range.
    standing_from (at + length piece + 1) pieces >>= λ more. Ok (record { at = at; range = range } ∷ more)

-- where the first range begins that isn't wholly in a document of this many pages
abbrev pub first_missing : (pages : ℕ) → List Standing → Option ℕ
first_missing pages [] = None
first_missing pages (s ∷ more) = if has_range pages s.range then first_missing pages more else Some s.at

-- where the first range begins that passes this limit of entries, if this many come before it
abbrev pub first_over : (most before pages : ℕ) → List Standing → Option ℕ
first_over most before pages [] = None
first_over most before pages (s ∷ more) =
    let n = before + length (entries_of pages s.range) in
    if nat_lt most n then Some s.at else first_over most n pages more

abbrev pub refused_at : Option ℕ → (ℕ → RowFault) → Result Row RowFault → Result Row RowFault
refused_at None fault next = next
refused_at (Some at) fault next = Err (fault at)

abbrev pub ranges_from : List Standing → List Range
ranges_from [] = []
ranges_from (s ∷ more) = s.range ∷ ranges_from more

-- the row of these ranges, with at most this many entries
abbrev pub row_standing : (most pages : ℕ) → List Standing → Result Row RowFault
row_standing most pages all =
    refused_at (first_missing pages all) NotInDocument
    (refused_at (first_over most 0 pages all) TooManyEntries (Ok (row_named pages (ranges_from all))))

-- the row that a text names, or its first fault: the whole text is read first, then all pages are looked up
-- (RULES, 11.1 and 11.2)
abbrev pub row_of_text : (pages : ℕ) → List ℕ → Result Row RowFault
row_of_text pages text = standing_from 0 (pieces_of text) >>= row_standing most_entries pages

-- ---- steps

-- which entries stay, by their places in the row
pub data Part : Type 0 where
  All : Part
  Odd : Part
  Even : Part

-- RULES, 11.2
abbrev pub part_of : Part → Row → Row
part_of All row = row
part_of Odd row = odd_part row
part_of Even row = even_part row

abbrev pub reversed_if : Bool → Row → Row
reversed_if backwards row = if backwards then reverse row else row

-- the ranges that are named, or else all pages; a part of these; and that backwards on request
pub record Choice : Type 0 where
  pub ranges : Option (List ℕ)
  pub part : Part
  pub backwards : Bool

abbrev pub named_row : (pages : ℕ) → Option (List ℕ) → Result Row RowFault
named_row pages None = Ok (all_pages pages)
named_row pages (Some text) = row_of_text pages text

-- the row, if it has an entry
abbrev pub some_left : Row → Result Row RowFault
some_left row = refuse_if (length row == 0) NoEntries (Ok row)

-- RULES, 11.1 and 11.2
abbrev pub chosen : (pages : ℕ) → Choice → Result Row RowFault
chosen pages choice =
    named_row pages choice.ranges >>= λ row. some_left (reversed_if choice.backwards (part_of choice.part row))

-- how a booklet is sewn: in one signature, in signatures of this many sides, or in as few as are easy to fold
pub data Signing : Type 0 where
  InOne : Signing
  OfSides : (sides : ℕ) → Signing
  Auto : Signing

-- RULES, 11.3
abbrev pub sides_for : Signing → (entries : ℕ) → ℕ
sides_for InOne n = leaves_for n * 4
sides_for (OfSides s) n = s
sides_for Auto n = auto_sides n

-- in signatures, if any are wanted
abbrev pub signed_if : Option Signing → Row → Row
signed_if None row = row
signed_if (Some how) row = in_order_of (Some (sides_for how (length row))) row

-- the row that is imposed
abbrev pub imposed_row : (pages : ℕ) → Choice → Option Signing → Result Row RowFault
imposed_row pages choice how = chosen pages choice >>= λ row. Ok (signed_if how row)
