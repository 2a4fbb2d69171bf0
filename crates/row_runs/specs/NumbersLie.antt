-- Numbers of pages lie in their pages' cells.
use Rattle.std.specs.Prelude.{⊤, ℕ, ◌<◌, ℤ, Bool, Option}
use Rattle.rules.specs.Specification.{Turn}
use Rattle.rules.specs.Made.{MadeSlot, Blank, Placed}
use Rattle.layouts.specs.Cells.{column_of, row_of, size, turn_in}
use Rattle.layouts.specs.Laws.{Cell, cell_at}
use Rattle.row_sheets.specs.Creep.{AreHalves, creeping_slot}
use Rattle.row_sheets.specs.Filled.{Filling, slot_in_cell}
use Rattle.row_sheets.specs.Halves.{creeping_half, side_turn}
use Rattle.row_sheets.specs.Standing.{EntryCreeps, EntryFits}
use Rattle.dressing.specs.AtFoot.{IsAtFoot, number_point}
use Rattle.row_runs.specs.Numbers.{below_middle}
use Rattle.row_runs.specs.declared.sheet_request.Laying.TheVariants as laying
use Rattle.row_sheets.specs.declared.fill.Scheme.TheVariants as scheme

-- the number of the page in a slot is at the foot of this cell, in its middle, as pages of this turn are held
abbrev pub SlotIsNumbered : Turn → Cell → (below : Option ℤ) → MadeSlot → Type 0
SlotIsNumbered turn cell below Blank = ⊤
SlotIsNumbered turn cell below (Placed place item paper) = IsAtFoot turn cell (number_point below paper item)

-- the numbers of pages in cells lie in these, as of `impose nup 4 --numbers 9pt`: a law
abbrev pub NumbersInCells : Type 0
NumbersInCells = (f : Filling) (cells c : ℕ) (entry : Option ℕ) → c < size f.setting.grid → EntryFits f entry
    → SlotIsNumbered (turn_in f.setting.grid) (cell_at f.setting.room f.setting.grid (row_of f.setting.order f.setting.grid c) (column_of f.setting.order f.setting.grid c))
    (below_middle (laying.InCells f.setting (scheme.Grid cells))) (slot_in_cell f c entry)

-- the numbers of a booklet's pages lie in the halves, which creep with their leaves, as of `impose booklet --numbers
-- 9pt`: a law
abbrev pub NumbersInHalves : Type 0
NumbersInHalves = (f : Filling) (turned_backs by_half : Bool) (k creep : ℕ) (entry : Option ℕ) → k < 2 → AreHalves f.setting → EntryCreeps f creep entry
    → SlotIsNumbered (side_turn by_half) (creeping_half f.setting by_half k creep) (below_middle (laying.InCells f.setting (scheme.Booklet turned_backs creep)))
    (creeping_slot f by_half k creep entry)
