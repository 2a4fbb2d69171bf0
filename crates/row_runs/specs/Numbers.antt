-- The numbers of the pages on the sheets that are asked for.
use Rattle.std.specs.Prelude.{ℕ, ◌+◌, ◌*◌, nat_le, ℤ, pos, Bool, true, ◌&&◌, List, [], ◌∷◌, length, map, Option, Some, None, option_map, Result, Ok, Err}
use Rattle.rules.specs.Papers.{Paper}
use Rattle.rules.specs.Run.{most_sheets}
use Rattle.rules.specs.Choice.{RowFault}
use Rattle.rules.specs.Made.{MadeSheet}
use Rattle.rules.specs.Rows.{Row}
use Rattle.layouts.specs.Cells.{high}
use Rattle.layouts.specs.Placed.{Room}
use Rattle.row_sheets.specs.RowSheets.{paper_of}
use Rattle.dressing.specs.declared.numbers.Numbering.{Numbering}
use Rattle.sheet_text.specs.declared.numbers.Numbers.{Numbers}
use Rattle.row_runs.specs.SwappedMargins.{swapped}
use Rattle.row_runs.specs.Reaching.{are_reached}
use Rattle.row_runs.specs.Turning.{turn_on}
use Rattle.row_runs.specs.Sheets.{laying_for, leaves_in, row_chosen, row_printed, sewn, sheets_laid}
use Rattle.row_runs.specs.declared.sheet_request.SheetRequest.{SheetRequest}
use Rattle.row_runs.specs.declared.sheet_request.Laying.{Laying}
use Rattle.row_runs.specs.declared.sheet_request.Laying.TheVariants as laying

-- an entry of which the page is named by this place
abbrev pub place_named : (place : ℕ) → Option ℕ → Option ℕ
place_named place entry = option_map (λ page. place) entry

-- a row of which each page is named by its place in it, counted from this one
abbrev pub named_places_from : (place : ℕ) → Row → Row
named_places_from place [] = []
named_places_from place (entry ∷ row) = place_named place entry ∷ named_places_from (place + 1) row

-- the paper of sheets, which pages have whose own isn't known, and which blanks are given here
abbrev pub sheet_paper : Laying → Paper
sheet_paper (laying.AsTheyAre blank) = blank
sheet_paper (laying.InCells t how) = t.room.paper
sheet_paper (laying.Poster poster) = poster.sheet
sheet_paper (laying.BySpec spec sheet page) = sheet

abbrev pub paper_in : List Paper → (other : Paper) → Option ℕ → Paper
paper_in papers other None = other
paper_in papers other (Some page) = paper_of papers other page

-- the sheets that are asked for, with each page named by its place in the row, by which its paper is found too
abbrev pub places_laid : List Paper → SheetRequest → Row → List MadeSheet
places_laid papers a row = sheets_laid (laying_for a papers row) (leaves_in (sewn a) row)
    (map (paper_in papers (sheet_paper a.laying)) row) (row_printed a (named_places_from 0 row))

abbrev pub places_by : List Paper → SheetRequest → Result Row RowFault → List MadeSheet
places_by papers a (Ok row) = places_laid papers a row
places_by papers a (Err fault) = []

-- how far the foot of a cell is below the middle of its page, in grains: half of the cell's height. Pages that are as they are,
-- and posters, are their own cells
abbrev pub below_middle : Laying → Option ℤ
below_middle (laying.InCells t how) = Some (pos (635_000 * high t.room t.grid))
below_middle other = None

-- the numbers that are asked for of a document with so many pages, if any are, which are moved as their pages are (RULES, 15)
abbrev pub numbers_asked : (pages : ℕ) → List Paper → SheetRequest → (swap : Option Room) → Option Numbering → Option Numbers
numbers_asked pages papers a swap asked = option_map (λ how. record {
  size = how.size;
  first = how.first;
  places = swapped swap (places_by papers a (row_chosen pages a));
  below = below_middle a.laying;
}) asked

-- they can be moved so: there are few enough, and none comes out of reach
abbrev pub are_numbers_reached : (pages : ℕ) → List Paper → SheetRequest → (swap : Option Room) → Option Numbering → Bool
are_numbers_reached pages papers a swap None = true
are_numbers_reached pages papers a swap (Some how) = let places = places_by papers a (row_chosen pages a) in
    nat_le (length places) most_sheets && are_reached (turn_on []) swap places
