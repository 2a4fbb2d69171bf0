-- Zines: the cells of their sheets, and how these are read once they are folded and cut. All here is this project's own rules.
use Rattle.std.specs.Prelude.{◌≡◌, ⊤, nat_lt, true, false, All, slice_index_or, ℕ, zero, suc, ◌+◌, ◌-◌, ◌*◌, ◌%◌, ◌<◌, Bool, ◌||◌, ◌==◌, if◌then◌else◌, List, [], ◌∷◌, map, flat_map, length}
use Rattle.std.specs.List.{range_with_len}
use Rattle.rules.specs.Papers.{Paper}
use Rattle.rules.specs.Sheets.{blocks}
use Rattle.rules.specs.Signatures.{entry_of}
use Rattle.rules.specs.Specification.{Item, Turn}
use Rattle.rules.specs.Made.{MadeSlot, Blank, Placed, MadeSheet}
use Rattle.rules.specs.Rows.{Row}
use Rattle.layouts.specs.Placed.{IsEven, Room}
use Rattle.layouts.specs.Cells.{Grid, column_of, half_turned, row_of, turn_in}
use Rattle.layouts.specs.Fitted.{IsFitted, fitted}
use Rattle.layouts.specs.Laws.{IsHalfTurnOf, IsInCell, cell_at}
use Rattle.layouts.specs.Grids.{leaf_order}
use Rattle.layouts.specs.declared.setting.Setting.{Setting}
use Rattle.row_sheets.specs.Filled.{Filling, zine_sheets}
use Rattle.row_sheets.specs.Stacked.{shown_at}
use Rattle.row_sheets.specs.Standing.{AllEntriesFit}

-- ---- folded and cut

-- a part of the sheet, as one holds it: in which of two rows, from the top, and in which of four columns
pub record ZinePart : Type 0 where
  pub row : ℕ
  pub column : ℕ

-- folded along the middle of its height, with the blank side inside, and cut there between the two inner columns. So the two
-- parts of an outer column are the two sides of a leaf, and so are the two inner parts of a row, which are pushed together
abbrev pub other_side : ZinePart → ZinePart
other_side p = if p.column == 1 || p.column == 2 then record { row = p.row; column = 3 - p.column }
    else record { row = 1 - p.row; column = p.column }

-- at the folds between outer and inner columns a part faces the one beside it
abbrev pub facing : ZinePart → ZinePart
facing p = record { row = p.row; column = if p.column % 2 == 0 then p.column + 1 else p.column - 1 }

-- leaves, the first from this side of it on: its two sides, and then the leaf that faces it
abbrev pub leaves_from : (leaves : ℕ) → ZinePart → List ZinePart
leaves_from zero p = []
leaves_from (suc n) p = p ∷ other_side p ∷ leaves_from n (facing (other_side p))

-- the four leaves, from the last part of the second row on
abbrev pub in_hand : List ZinePart
in_hand = leaves_from 4 (record { row = 1; column = 3 })

-- what a sheet shows there, one after the other
abbrev pub read_folded : MadeSheet → Row
read_folded sheet = map (λ p. shown_at sheet (p.row * 4 + p.column)) in_hand

-- sheet by sheet, that is the row; after its end are blanks
abbrev pub AreReadFolded : Row → List MadeSheet → Type 0
AreReadFolded row made = flat_map read_folded made ≡ map (entry_of row) (range_with_len 0 (blocks 8 (length row) * 8))

-- a folded zine reads in the order of its row: a law
abbrev pub ZineIsRead : Type 0
ZineIsRead = (f : Filling) (row : Row) → AreReadFolded row (zine_sheets f row)

-- ---- its cells

-- two rows of four cells
abbrev pub zine_grid : Bool → Grid
zine_grid turned = record { rows = 2; columns = 4; turned = turned }

-- they are filled along rows with upright pages, of which nothing is trimmed; there are gaps, and margins are even
pub record AreZineCells (t : Setting) : Type 0 where
  pub grid_is : t.grid ≡ zine_grid t.grid.turned
  pub order_is : t.order ≡ leaf_order t.order.right_to_left
  pub untrimmed : t.room.trim ≡ 0
  pub some_across : 0 < t.room.gutter_across
  pub some_up : 0 < t.room.gutter_up
  pub even : IsEven t.room

-- the gaps that a zine keeps: less by 10^-5 of a point, as its first row is rounded as the second, but turned by half
abbrev pub closer : Room → Room
closer room = record room { gutter_across = room.gutter_across - 1; gutter_up = room.gutter_up - 1 }

-- ---- where its pages lie

-- how the page of a cell is turned: in the first row it is upside down
abbrev pub zine_turn : Setting → (c : ℕ) → Turn
zine_turn t c = if nat_lt c 4 then half_turned (turn_in t.grid) else turn_in t.grid

-- how far a page reaches past its cell at most: the first row is rounded as the second one is, and then turned by half
abbrev pub past_row : (c : ℕ) → ℕ
past_row c = if nat_lt c 4 then 3 else 0

-- a page of this paper in cell c: it is turned so, and lies in its cell. In the second row it is fitted into that. In the first row it
-- lies as it would in the opposite cell, were the sheet turned by half
pub record LiesInZine (t : Setting) (c : ℕ) (page : Paper) (item : Item) : Type 0 where
  pub turn : item.turn ≡ zine_turn t c
  pub in_cell : IsInCell t.room page (cell_at t.room t.grid (row_of t.order t.grid c) (column_of t.order t.grid c)) (past_row c) item
  pub second : nat_lt c 4 ≡ false → IsFitted t page c item
  pub first : nat_lt c 4 ≡ true → IsHalfTurnOf page t.room.paper (fitted t page (7 - c)) item

abbrev pub SlotLiesInZine : Setting → (c : ℕ) → MadeSlot → Type 0
SlotLiesInZine t c Blank = ⊤
SlotLiesInZine t c (Placed page item paper) = LiesInZine t c paper item

-- each page of these sheets lies in its cell of a zine
abbrev pub LieInZines : Setting → List MadeSheet → Type 0
LieInZines t made = All (λ sheet. (c : ℕ) (d : MadeSlot) → c < length sheet.slots → SlotLiesInZine t c (slice_index_or sheet.slots c d)) made

-- the pages of a zine lie in their cells, if nothing had to be refused, as by `impose zine`: a law
abbrev pub ZineLiesInCells : Type 0
ZineLiesInCells = (f : Filling) (row : Row) → AreZineCells f.setting → AllEntriesFit f row → LieInZines f.setting (zine_sheets f row)
