-- The text of a plan: for each sheet or leaf a line with the pages in its places, row by row, as one holds the sheet for its
-- pages to be upright; then how many sheets and blank places there are, on which edge leaves are flipped, and in which
-- ways pages lie on their sheets.
use Rattle.std.specs.Prelude.{ℕ, ◌+◌, ◌-◌, ◌*◌, ◌/◌, ◌%◌, ◌==◌, nat_le, nat_lt, if◌then◌else◌, List, [], ◌++◌, length, sum_by}
use Rattle.std.specs.Prelude.{Option, Some, None, slice_get, codes, decimal}
use Rattle.rules.specs.Bytes.{line}
use Rattle.rules.specs.Made.{MadeSheet, MadeSlot, Blank, Placed}
use Rattle.sheet_plan.specs.OfSheets.{slots_at}
use Rattle.layouts.specs.Cells.{Grid}
use Rattle.layouts.specs.declared.arrangement.Order.{Order}
use Rattle.preview.specs.Naming.{each}
use Rattle.preview.specs.Reading.{place_number_at}
use Rattle.preview.specs.declared.naming.Edge.{Edge}
use Rattle.preview.specs.declared.naming.Edge.TheVariants.{Short, Long}
use Rattle.preview.specs.declared.naming.Sides.{Sides}
use Rattle.preview.specs.declared.naming.Sides.TheVariants.{One, Both}
use Rattle.preview.specs.declared.reading.Places.{Places}
use Rattle.preview.specs.declared.reading.Places.TheVariants.{Cells, Tiles}
use Rattle.preview.specs.declared.reading.Reading.{Reading}
use Rattle.preview.specs.Ways.{ways_text}

-- ---- a sheet

-- what is in a place; pages are counted from 1
abbrev pub place_text : MadeSlot → List ℕ
place_text Blank = codes "blank"
place_text (Placed p item paper) = decimal (p + 1)

-- what is in a cell, which may be no place of the sheet
abbrev pub cell_text : Option MadeSlot → List ℕ
cell_text None = codes "-"
cell_text (Some slot) = place_text slot

-- what is before a cell, and before a row
abbrev pub bar : (column : ℕ) → List ℕ
bar column = if column == 0 then [] else codes " | "

abbrev pub row_slash : (row : ℕ) → List ℕ
row_slash row = if row == 0 then [] else codes " / "

abbrev pub cell_text_at : List MadeSlot → Order → Grid → (row column : ℕ) → List ℕ
cell_text_at slots o g row column = bar column ++ cell_text (slice_get slots (place_number_at o g row column))

abbrev pub row_cells_text : List MadeSlot → Order → Grid → (row : ℕ) → List ℕ
row_cells_text slots o g row = row_slash row ++ each (cell_text_at slots o g row) 0 g.columns

-- the cells of a sheet, row by row
abbrev pub cells_text : List MadeSlot → Order → Grid → List ℕ
cells_text slots o g = each (row_cells_text slots o g) 0 g.rows

-- which tile of its page sheet s is
abbrev pub tile_name : Grid → (s : ℕ) → List ℕ
tile_name g s = codes ", column " ++ decimal (s % g.columns + 1) ++ codes ", row " ++ decimal (s / g.columns % g.rows + 1)

abbrev pub places_text : Places → List MadeSheet → (s : ℕ) → List ℕ
places_text (Cells g o) all s = cells_text (slots_at all s) o g
places_text (Tiles g) all s = cell_text (slice_get (slots_at all s) 0) ++ tile_name g s

-- ---- lines

-- the back of a leaf, which the last one may lack
abbrev pub back_text : Places → List MadeSheet → (s : ℕ) → List ℕ
back_text p all s = if nat_lt s (length all) then codes "    back  " ++ places_text p all s else []

abbrev pub sheet_line : Places → List MadeSheet → (s : ℕ) → List ℕ
sheet_line p all s = line (codes "sheet " ++ decimal (s + 1) ++ codes "  " ++ places_text p all s)

abbrev pub leaf_line : Places → List MadeSheet → (k : ℕ) → List ℕ
leaf_line p all k =
    line (codes "leaf " ++ decimal (k + 1) ++ codes "  front  " ++ places_text p all (2 * k) ++ back_text p all (2 * k + 1))

-- the line of sheet k, or of leaf k
abbrev pub line_by : Sides → Places → List MadeSheet → (k : ℕ) → List ℕ
line_by One p all k = sheet_line p all k
line_by (Both flip) p all k = leaf_line p all k

abbrev pub row_text : Reading → List MadeSheet → (k : ℕ) → List ℕ
row_text r all k = line_by r.sides r.places all k

-- so many lines from the one with this number on
abbrev pub rows_text : Reading → List MadeSheet → (first count : ℕ) → List ℕ
rows_text r all first n = each (row_text r all) first n

-- how many lines so many sheets have
abbrev pub row_count : Sides → (sheets : ℕ) → ℕ
row_count One n = n
row_count (Both flip) n = n / 2 + n % 2

-- a line in the place of so many
abbrev pub left_out_line : ℕ → List ℕ
left_out_line n = line (codes ".. " ++ decimal n ++ codes " more ..")

-- all lines, of which there are so many; or of more than the most the first half of these and the last, and between them how
-- many are left out
abbrev pub shortened : Reading → (most n : ℕ) → List MadeSheet → List ℕ
shortened r most n all =
    if nat_le n most then rows_text r all 0 n else
    rows_text r all 0 (most - most / 2) ++ left_out_line (n - most) ++ rows_text r all (n - most / 2) (most / 2)

-- how many places are blank
abbrev pub blank_in : MadeSlot → ℕ
blank_in Blank = 1
blank_in (Placed p item paper) = 0

abbrev pub blanks_on : List MadeSlot → ℕ
blanks_on slots = sum_by blank_in slots

abbrev pub blanks_of : List MadeSheet → ℕ
blanks_of all = sum_by (λ sheet. blanks_on sheet.slots) all

-- how many leaves so many sheets are, if they are printed on both sides
abbrev pub leaves_text : Sides → (sheets : ℕ) → List ℕ
leaves_text One n = []
leaves_text (Both flip) n = codes ", leaves " ++ decimal (row_count (Both flip) n)

abbrev pub totals : Sides → List MadeSheet → List ℕ
totals sides all =
    line (codes "sheets " ++ decimal (length all) ++ leaves_text sides (length all) ++ codes ", blanks " ++ decimal (blanks_of all))

-- on which edge a printer has to flip them
abbrev pub edge_name : Edge → List ℕ
edge_name Short = codes "short"
edge_name Long = codes "long"

abbrev pub edge_line : Edge → List ℕ
edge_line flip = line (codes "print on both sides, flip on the " ++ edge_name flip ++ codes " edge")

abbrev pub flip_text : Sides → List ℕ
flip_text One = []
flip_text (Both flip) = edge_line flip

-- RULES, 17
abbrev pub plan_text : Reading → (most : ℕ) → List MadeSheet → List ℕ
plan_text r most all =
    shortened r most (row_count r.sides (length all)) all ++ totals r.sides all ++ flip_text r.sides ++ ways_text all
