-- Sheets whose cells are filled from a row: grids, cards, stacks. Each page is fitted into its cell by its own paper. All
-- here is this project's own rules.
use Rattle.std.specs.Prelude.{◌≡◌, ◌≢◌, ℕ, ◌+◌, ◌-◌, ◌*◌, ◌/◌, ◌%◌, ◌<◌, ◌≤◌, nat_abs, Bool, true, false, ◌&&◌, ◌==◌, if◌then◌else◌, List}
use Rattle.std.specs.Prelude.{map, flat_map, length, nat_lt, replicate, Option, Some, None, ⊤}
use Rattle.std.specs.List.{range_with_len}
use Rattle.rules.specs.Papers.{Paper}
use Rattle.rules.specs.Sheets.{blocks}
use Rattle.rules.specs.Signatures.{entry_of}
use Rattle.rules.specs.Specification.{Item}
use Rattle.rules.specs.Made.{MadeSlot, Blank, Placed, MadeSheet}
use Rattle.rules.specs.Rows.{Row}
use Rattle.layouts.specs.declared.arrangement.Binding.{Binding}
use Rattle.layouts.specs.declared.arrangement.FillOrder.{FillOrder}
use Rattle.layouts.specs.declared.arrangement.FillOrder.TheVariants.{Rows, Columns}
use Rattle.layouts.specs.declared.arrangement.Turned.{Turned}
use Rattle.layouts.specs.declared.setting.Setting.{Setting}
use Rattle.layouts.specs.Placed.{IsEven, Room, IsInside, AreApart}
use Rattle.layouts.specs.Cells.{Grid, size, read_columns, read_rows, read_row, read_column, whole_parts}
use Rattle.layouts.specs.Fitted.{fitted, fitted_back, why_not_fitted, binding_setting_of}
use Rattle.layouts.specs.Refusals.{why_not_bound}
use Rattle.layouts.specs.Laws.{IsPaper, LiesBefore, LiesBehind}

-- what the cells are filled with: the cells of a sheet, and the paper of each page
pub record Filling : Type 0 where
  pub setting : Setting
  pub paper_of : (page : ℕ) → Paper

-- an entry of a row, whose page lies as one of its paper does
abbrev pub placed : Filling → (item : Paper → Item) → Option ℕ → MadeSlot
placed f item None = Blank
placed f item (Some page) = let paper = f.paper_of page in Placed page (item paper) paper

-- in cell c
abbrev pub slot_in_cell : Filling → (c : ℕ) → Option ℕ → MadeSlot
slot_in_cell f c entry = placed f (λ page. fitted f.setting page c) entry

-- a page of this paper in a cell of a sheet that is turned by half, or isn't, and an entry there
abbrev pub in_half : Setting → (by_half : Bool) → (page : Paper) → (c : ℕ) → Item
in_half t by_half page c = if by_half then fitted_back t page c else fitted t page c

abbrev pub slot_on : Filling → (by_half : Bool) → (c : ℕ) → Option ℕ → MadeSlot
slot_on f by_half c entry = placed f (λ page. in_half f.setting by_half page c) entry

-- sheets are fronts and backs in turn, from a front on; if backs are turned, each of them is turned by half
-- (RULES, 14.1)
abbrev pub is_turned : (turned_backs : Bool) → (s : ℕ) → Bool
is_turned turned_backs s = turned_backs && (s % 2 == 1)

-- sheets with this number of cells each, of which cell c of sheet s has the entry for it
abbrev pub sides : Filling → (turned_backs : Bool) → (sheets cells : ℕ) → (entry : (s c : ℕ) → Option ℕ) → List MadeSheet
sides f turned_backs sheets cells entry = map (λ s. record {
  paper = f.setting.room.paper;
  slots = map (λ c. slot_on f (is_turned turned_backs s) c (entry s c)) (range_with_len 0 cells);
}) (range_with_len 0 sheets)

-- none of which is turned
abbrev pub filled : Filling → (sheets cells : ℕ) → (entry : (s c : ℕ) → Option ℕ) → List MadeSheet
filled f sheets cells entry = sides f false sheets cells entry

-- ---- what is where

-- a grid: the row goes on from cell to cell, and from sheet to sheet (RULES, 14)
abbrev pub grid_entry : (cells : ℕ) → Row → (s c : ℕ) → Option ℕ
grid_entry cells row s c = entry_of row (s * cells + c)

-- cards: all cells of a sheet have the same entry
abbrev pub card_entry : Row → (s c : ℕ) → Option ℕ
card_entry row s c = entry_of row s

-- a stack: the row goes on from sheet to sheet, and from cell to cell
abbrev pub stack_entry : (sheets : ℕ) → Row → (s c : ℕ) → Option ℕ
stack_entry sheets row s c = entry_of row (c * sheets + s)

-- the cell that is behind cell c, if a sheet is turned over like the page of a book, as one reads it: it is as far
-- from the other side
abbrev pub cell_behind : FillOrder → (rows columns : ℕ) → (c : ℕ) → ℕ
cell_behind Rows rows columns c = c / columns * columns + (columns - (c % columns + 1))
cell_behind Columns rows columns c = (columns - (c / rows + 1)) * rows + c % rows

-- a stack on both sides of leaves: sheet 2 l is the front of leaf l, and sheet 2 l + 1 its back
abbrev pub duplex_entry : (leaves : ℕ) → (behind : ℕ → ℕ) → Row → (s c : ℕ) → Option ℕ
duplex_entry leaves behind row s c = entry_of row ((if s % 2 == 0 then c else behind c) * (2 * leaves) + s)

abbrev pub grid_sheets : Filling → (cells : ℕ) → Row → List MadeSheet
grid_sheets f cells row = filled f (blocks cells (length row)) cells (grid_entry cells row)

abbrev pub card_sheets : Filling → (cells : ℕ) → Row → List MadeSheet
card_sheets f cells row = filled f (length row) cells (card_entry row)

abbrev pub stack_sheets : Filling → (cells : ℕ) → Row → List MadeSheet
stack_sheets f cells row = let sheets = blocks cells (length row) in filled f sheets cells (stack_entry sheets row)

abbrev pub behind_in : Setting → ℕ → ℕ
behind_in t = cell_behind t.order.run (read_rows t.order.turned t.grid) (read_columns t.order.turned t.grid)

abbrev pub duplex_sheets : Filling → Row → List MadeSheet
duplex_sheets f row = let leaves = blocks (2 * size f.setting.grid) (length row) in
    filled f (2 * leaves) (size f.setting.grid) (duplex_entry leaves (behind_in f.setting) row)

-- the sides of a booklet's leaves, two entries on each: the row is in signature order (RULES, 14.1)
abbrev pub booklet_sheets : Filling → (turned_backs : Bool) → Row → List MadeSheet
booklet_sheets f turned_backs row = sides f turned_backs (blocks 2 (length row)) 2 (grid_entry 2 row)

-- a zine: each sheet has two rows of four cells. In the first row are, from its first cell on, the fifth, fourth, third and
-- second of eight entries, in the second row the sixth, seventh, eighth and first (RULES, 14.4)
abbrev pub zine_place : (c : ℕ) → ℕ
zine_place c = if nat_lt c 4 then 4 - c else (c + 1) % 8

abbrev pub zine_entry : Row → (s c : ℕ) → Option ℕ
zine_entry row s c = entry_of row (s * 8 + zine_place c)

-- what is in the first row lies where it would in the opposite cell, were the sheet turned by half
abbrev pub zine_slot : Filling → (c : ℕ) → Option ℕ → MadeSlot
zine_slot f c entry = slot_on f (nat_lt c 4) (if nat_lt c 4 then 7 - c else c) entry

abbrev pub zine_sheets : Filling → Row → List MadeSheet
zine_sheets f row = map (λ s. record {
  paper = f.setting.room.paper;
  slots = map (λ c. zine_slot f c (zine_entry row s c)) (range_with_len 0 8);
}) (range_with_len 0 (blocks 8 (length row)))

-- ---- laws

-- if no back is turned they are a grid with two cells
abbrev pub BookletIsGrid : Type 0
BookletIsGrid = (f : Filling) (row : Row) → booklet_sheets f false row ≡ grid_sheets f 2 row

-- cards are the grid of a row that has each entry in as many cells
abbrev pub CardsAreGrid : Type 0
CardsAreGrid = (f : Filling) (cells : ℕ) (row : Row) → 0 < cells → card_sheets f cells row ≡ grid_sheets f cells (flat_map (replicate cells) row)

-- the cells of the sheets, in turn, have the row, and blanks after its end: a law
abbrev pub GridRunsOn : Type 0
GridRunsOn = (cells sheets : ℕ) (row : Row)
    → flat_map (λ s. map (grid_entry cells row s) (range_with_len 0 cells)) (range_with_len 0 sheets)
    ≡ map (entry_of row) (range_with_len 0 (sheets * cells))

-- the cell behind a cell is in its row, and as far from the right as this one is from the left
abbrev pub BehindIsMirror : Type 0
BehindIsMirror = (run : FillOrder) (right_to_left : Bool) (t : Turned) (g : Grid) (c : ℕ) → c < size g
    → (let b = cell_behind run (read_rows t g) (read_columns t g) c in
    (b < size g) × (read_row run t g b ≡ read_row run t g c)
    × (read_column run right_to_left t g b + read_column run right_to_left t g c + 1 ≡ read_columns t g))

-- all pages have a place in the cells
abbrev pub HavePlaces : Filling → Type 0
HavePlaces f = (page : ℕ) → IsPaper (f.paper_of page) × (why_not_fitted f.setting (f.paper_of page) ≡ None)

-- a placed slot lies on what the margins leave of the sheet; a blank one shows nothing
abbrev pub SlotIsInside : Room → MadeSlot → Type 0
SlotIsInside room Blank = ⊤
SlotIsInside room (Placed page item paper) = IsInside room paper item

-- two placed slots are apart by the gap
abbrev pub SlotsAreApart : Room → (one other : MadeSlot) → Type 0
SlotsAreApart room Blank other = ⊤
SlotsAreApart room (Placed page item paper) Blank = ⊤
SlotsAreApart room (Placed page item paper) (Placed page' item' paper') = AreApart room paper item paper' item'

-- whatever the entries are, and whatever their papers
abbrev pub FilledIsInside : Type 0
FilledIsInside = (f : Filling) (c : ℕ) (entry : Option ℕ) → IsPaper f.setting.room.paper → HavePlaces f
    → c < size f.setting.grid → SlotIsInside f.setting.room (slot_in_cell f c entry)

abbrev pub FilledIsApart : Type 0
FilledIsApart = (f : Filling) (c d : ℕ) (one other : Option ℕ) → IsPaper f.setting.room.paper → HavePlaces f
    → c < size f.setting.grid → d < size f.setting.grid → c ≢ d
    → SlotsAreApart f.setting.room (slot_in_cell f c one) (slot_in_cell f d other)

-- also on sheets that are turned by half, if the margins are even
abbrev pub SidesAreInside : Type 0
SidesAreInside = (f : Filling) (by_half : Bool) (c : ℕ) (entry : Option ℕ) → IsPaper f.setting.room.paper → HavePlaces f
    → (by_half ≡ true → IsEven f.setting.room) → 2 ≤ size f.setting.grid → c < size f.setting.grid
    → SlotIsInside f.setting.room (slot_on f by_half c entry)

abbrev pub SidesAreApart : Type 0
SidesAreApart = (f : Filling) (by_half : Bool) (c d : ℕ) (one other : Option ℕ) → IsPaper f.setting.room.paper → HavePlaces f
    → c < size f.setting.grid → d < size f.setting.grid → c ≢ d
    → SlotsAreApart f.setting.room (slot_on f by_half c one) (slot_on f by_half d other)

-- a placed slot lies before a line across the sheet, or beyond it, by half of the gap; the line is twice as far up as said
abbrev pub SlotLiesBefore : Room → (twice : ℕ) → MadeSlot → Type 0
SlotLiesBefore room twice Blank = ⊤
SlotLiesBefore room twice (Placed page item paper) = LiesBefore room twice paper item

abbrev pub SlotLiesBehind : Room → (twice : ℕ) → MadeSlot → Type 0
SlotLiesBehind room twice Blank = ⊤
SlotLiesBehind room twice (Placed page item paper) = LiesBehind room twice paper item

-- on the sides of leaves nothing crosses the fold, whatever the entries are, and whatever their papers: it is one line for
-- all fronts, in the middle of the sheet to 10^-5 of a point, and the same line, turned by half, for backs that are turned
pub record BookletFolds (f : Filling) (right_to_left : Bool) : Type 0 where
  pub twice : ℕ
  pub no_farther : twice ≤ whole_parts (nat_abs f.setting.room.paper.height) + 1
  pub no_nearer : whole_parts (nat_abs f.setting.room.paper.height) ≤ twice + 1
  pub before : (entry : Option ℕ)
      → SlotLiesBefore f.setting.room twice (slot_on f false (if right_to_left then 1 else 0) entry)
  pub behind : (entry : Option ℕ)
      → SlotLiesBehind f.setting.room twice (slot_on f false (if right_to_left then 0 else 1) entry)
  pub turned_behind : (entry : Option ℕ)
      → SlotLiesBehind f.setting.room (2 * whole_parts (nat_abs f.setting.room.paper.height) - twice)
      (slot_on f true (if right_to_left then 1 else 0) entry)
  pub turned_before : (entry : Option ℕ)
      → SlotLiesBefore f.setting.room (2 * whole_parts (nat_abs f.setting.room.paper.height) - twice)
      (slot_on f true (if right_to_left then 0 else 1) entry)

-- if the cells are the halves of sheets that are bound so for pages of some paper
abbrev pub BookletKeepsFold : Type 0
BookletKeepsFold = (f : Filling) (page sheet : Paper) (b : Binding) → why_not_bound page sheet b ≡ None
    → f.setting ≡ binding_setting_of sheet b → HavePlaces f → BookletFolds f b.right_to_left
