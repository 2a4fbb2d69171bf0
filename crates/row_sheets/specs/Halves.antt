-- Where the pages of a booklet lie on its leaves: each in its half. All here is this project's own rules.
use Rattle.std.specs.Prelude.{◌≡◌, ⊤, ℕ, ◌+◌, ◌-◌, ◌*◌, ◌<◌, ◌≤◌, ◌==◌, Bool, not, if◌then◌else◌, nat_abs, List, length, slice_index_or}
use Rattle.rules.specs.Papers.{Paper}
use Rattle.rules.specs.Specification.{Item, Turn, Left, Right}
use Rattle.rules.specs.Made.{MadeSlot, Blank, Placed, MadeSheet}
use Rattle.rules.specs.Rows.{Row}
use Rattle.layouts.specs.declared.setting.Setting.{Setting}
use Rattle.layouts.specs.Placed.{Room}
use Rattle.layouts.specs.Cells.{column_of, kept_length, row_of, whole_parts}
use Rattle.layouts.specs.Laws.{Cell, IsInCell, IsInMiddle, cell_at}
use Rattle.row_sheets.specs.Creep.{AreHalves, creep_on, creeping_sheets}
use Rattle.row_sheets.specs.Filled.{Filling, is_turned}
use Rattle.row_sheets.specs.Standing.{AllFitOnLeaves, StandsInRoom, is_first_before}

-- where a cell comes to lie if the sheet is turned by half about the middle of its whole 10^-5 of a point
abbrev pub turned_cell : (sheet : Paper) → Cell → Cell
turned_cell sheet c = record {
  left = whole_parts (nat_abs sheet.width) - (c.left + c.width);
  bottom = whole_parts (nat_abs sheet.height) - (c.bottom + c.height);
  width = c.width;
  height = c.height;
}

-- a cell, moved up or down towards the fold
abbrev pub moved_cell : (is_before_fold : Bool) → (creep : ℕ) → Cell → Cell
moved_cell is_before_fold creep c = record c { bottom = if is_before_fold then c.bottom + creep else c.bottom - creep }

-- slot k of a side is before the fold there, which lies lower on the sheet
abbrev pub is_before_fold : (right_to_left by_half : Bool) → (k : ℕ) → Bool
is_before_fold right_to_left by_half k = if k == 0 then is_first_before right_to_left by_half else not (is_first_before right_to_left by_half)

-- the half of a side for slot k, and where it is on a leaf that creeps so far
abbrev pub half_of : Setting → (k : ℕ) → Cell
half_of t k = cell_at t.room t.grid (row_of t.order t.grid k) (column_of t.order t.grid k)

abbrev pub side_half : Setting → (by_half : Bool) → (k : ℕ) → Cell
side_half t by_half k = if by_half then turned_cell t.room.paper (half_of t k) else half_of t k

abbrev pub creeping_half : Setting → (by_half : Bool) → (k creep : ℕ) → Cell
creeping_half t by_half k creep = moved_cell (is_before_fold t.order.right_to_left by_half k) creep (side_half t by_half k)

-- pages are turned to the left, and on sides that are turned by half to the right
abbrev pub side_turn : (by_half : Bool) → Turn
side_turn by_half = if by_half then Right else Left

-- a cell lies on what the margins leave of the sheet's whole 10^-5 of a point
pub record CellIsOn (room : Room) (c : Cell) : Type 0 where
  pub left : room.left ≤ c.left
  pub right : c.left + c.width + room.right ≤ whole_parts (nat_abs room.paper.width)
  pub bottom : room.bottom ≤ c.bottom
  pub top : c.bottom + c.height + room.top ≤ whole_parts (nat_abs room.paper.height)

-- a page of this paper in its half: it is turned so, and lies in the half, which is moved with the leaf and stays within the
-- margins, in the middle of it
pub record LiesInHalf (t : Setting) (by_half : Bool) (k creep : ℕ) (page : Paper) (item : Item) : Type 0 where
  pub turn : item.turn ≡ side_turn by_half
  pub is_on : CellIsOn t.room (creeping_half t by_half k creep)
  pub in_cell : IsInCell t.room page (creeping_half t by_half k creep) (kept_length t.room.trim 0) item
  pub middle : IsInMiddle page (creeping_half t by_half k creep) item

abbrev pub SlotLiesInHalf : Setting → (by_half : Bool) → (k creep : ℕ) → MadeSlot → Type 0
SlotLiesInHalf t by_half k creep Blank = ⊤
SlotLiesInHalf t by_half k creep (Placed page item paper) = LiesInHalf t by_half k creep paper item

-- each page of these sides of leaves, in signatures of so many, lies in its half
abbrev pub LieInHalves : Setting → (turned_backs : Bool) → (creep leaves : ℕ) → List MadeSheet → Type 0
LieInHalves t turned_backs creep leaves made = (s k : ℕ) (sheet : MadeSheet) (d : MadeSlot) → s < length made → k < length (slice_index_or made s sheet).slots
    → SlotLiesInHalf t (is_turned turned_backs s) k (creep_on creep leaves s) (slice_index_or (slice_index_or made s sheet).slots k d)

-- the pages of a booklet lie in its halves, if nothing had to be refused, as by `impose booklet --creep 2mm --gap 1cm`:
-- a law
abbrev pub BookletLiesInHalves : Type 0
BookletLiesInHalves = (f : Filling) (turned_backs : Bool) (creep leaves : ℕ) (row : Row) → AreHalves f.setting → AllFitOnLeaves f creep leaves row
    → LieInHalves f.setting turned_backs creep leaves (creeping_sheets f turned_backs creep leaves row)

-- the least that is left of the gap at the fold as two pages of a leaf creep towards one another
abbrev pub crept_room : Room → (creep : ℕ) → Room
crept_room room creep = record room { gutter_up = room.gutter_up - 2 * creep }

-- each side lies on what the margins leave, with its pages apart by what is left of the gap
abbrev pub StandCrept : Room → (creep leaves : ℕ) → List MadeSheet → Type 0
StandCrept room creep leaves made = (s : ℕ) (d : MadeSheet) → s < length made → StandsInRoom (crept_room room (creep_on creep leaves s)) (slice_index_or made s d)

-- the pages of a booklet are apart by the gap less twice the creep: a law
abbrev pub BookletKeepsGap : Type 0
BookletKeepsGap = (f : Filling) (turned_backs : Bool) (creep leaves : ℕ) (row : Row) → AreHalves f.setting → AllFitOnLeaves f creep leaves row
    → StandCrept f.setting.room creep leaves (creeping_sheets f turned_backs creep leaves row)
