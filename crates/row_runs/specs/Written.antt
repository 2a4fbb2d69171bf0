-- How pages lie on the sheets that are written: they were laid, then backs were moved, and then pages were turned.
use Rattle.std.specs.Prelude.{◌≡◌, ⊤, ℕ, ◌+◌, ◌<◌, ◌≤◌, ℤ, pos, ◌+ℤ◌, ◌*ℤ◌, ◌≤ℤ◌, nat_abs, Bool, true, false, List, length, All, None, Some, slice_index_or}
use Rattle.rules.specs.Papers.{Paper}
use Rattle.rules.specs.Placement.{Point}
use Rattle.rules.specs.Specification.{Item, Turn, Upright}
use Rattle.rules.specs.Choice.{sides_for}
use Rattle.rules.specs.Made.{MadeSlot, Blank, Placed, MadeSheet}
use Rattle.rules.specs.Rows.{Row}
use Rattle.layouts.specs.declared.setting.Setting.{Setting}
use Rattle.layouts.specs.Placed.{IsOfPage, Room, fine, stands}
use Rattle.layouts.specs.Cells.{column_of, in_points, kept_length, row_of, whole_parts}
use Rattle.layouts.specs.Fitted.{is_whole, past_cell}
use Rattle.layouts.specs.Laws.{Cell, IsInCell, cell_at}
use Rattle.row_sheets.specs.Creep.{creep_on}
use Rattle.row_sheets.specs.Filled.{is_turned}
use Rattle.row_sheets.specs.Halves.{StandCrept, creeping_half, is_before_fold, side_turn}
use Rattle.row_sheets.specs.Standing.{StandsInRoom, fold_on}
use Rattle.row_runs.specs.SwappedMargins.{swapped, room_on}
use Rattle.rows.specs.Sewing.{signing_of}
use Rattle.rows.specs.declared.sewing.Signing.{Signing}
use Rattle.row_sheets.specs.Stacked.{AreCards, AreFilledInTurn, ArePiled, ArePiledLeaves}
use Rattle.row_runs.specs.ReadAsBound.{AreReadAs}
use Rattle.row_runs.specs.InPlaces.{StandInPlaces}
use Rattle.row_runs.specs.Runs.{AreTurned, swapped_room_for}
use Rattle.row_runs.specs.Sheets.{laying_for, leaves_in, row_printed, sewn}
use Rattle.row_runs.specs.Standing.{StandAsLaid}
use Rattle.row_sheets.specs.Zine.{AreReadFolded, past_row, zine_turn}
use Rattle.row_runs.specs.Turning.{turn_sum, turn_on, turned_item, turned_paper, turned_slot, all_by}
use Rattle.row_runs.specs.declared.sheet_request.Laying.{Laying}
use Rattle.row_runs.specs.declared.sheet_request.Laying.TheVariants as laying
use Rattle.row_sheets.specs.declared.fill.Scheme.TheVariants as scheme
use Rattle.row_runs.specs.declared.run.RowJob.{RowJob}

-- ---- neither moved nor turned

-- where nothing is exchanged on backs, sheets stay as they are: a law
abbrev pub NothingIsMoved : Type 0
NothingIsMoved = (made : List MadeSheet) → swapped None made ≡ made

-- a page that isn't turned stays as it is: a law
abbrev pub UprightIsUnturned : Type 0
UprightIsUnturned = (slot : MadeSlot) → turned_slot (all_by Upright) slot ≡ slot

-- no page of a run is turned
abbrev pub NoneIsTurned : RowJob → Type 0
NoneIsTurned j = (page : ℕ) → turn_on j.turns.now page ≡ Upright

-- ---- as they are laid

-- each sheet is in the room of its side
abbrev pub StandOnSides : Room → List MadeSheet → Type 0
StandOnSides room made = (s : ℕ) (d : MadeSheet) → s < length made → StandsInRoom (room_on room s) (slice_index_or made s d)

-- the sheets of a laying are as it lays them; where left and right margins are exchanged on backs, pages in cells are between
-- the margins of their own side. The margins of booklets and zines are even, so there is nothing to exchange
abbrev pub StandAsWritten : (exchanged : Bool) → Laying → List MadeSheet → Type 0
StandAsWritten true (laying.InCells t (scheme.Grid cells)) made = StandOnSides t.room made
StandAsWritten true (laying.InCells t (scheme.Cards cells)) made = StandOnSides t.room made
StandAsWritten true (laying.InCells t (scheme.Stack cells)) made = StandOnSides t.room made
StandAsWritten true (laying.InCells t scheme.Leaves) made = StandOnSides t.room made
StandAsWritten true other made = StandAsLaid other made
StandAsWritten false l made = StandAsLaid l made

-- the sheets that are written are inside and apart if no page is turned, as in `impose nup 4 --margin inner=1cm`: a law
abbrev pub WrittenStand : Type 0
WrittenStand = (j : RowJob) (made : List MadeSheet) → AreTurned j made → NoneIsTurned j
    → StandAsWritten j.swapped j.asked.laying made

-- the sheets that are written are in order, stacks and zines can be cut, and posters show their pages, if no page is
-- turned and no margins are exchanged: a law
abbrev pub WrittenInPlaces : Type 0
WrittenInPlaces = (j : RowJob) (made : List MadeSheet) → (are : AreTurned j made) → NoneIsTurned j → swapped_room_for j ≡ None
    → StandInPlaces (laying_for j.asked j.papers.now are.asked.row) j.papers.now (row_printed j.asked are.asked.row) made

-- ---- in order, also turned

-- cells that are filled in turn are the row, and each sheet of cards has one entry of it; a stack's sheets, cut and laid, or a zine's,
-- folded and cut, are the row
abbrev pub AreReadInOrder : Laying → Row → List MadeSheet → Type 0
AreReadInOrder (laying.InCells t (scheme.Grid cells)) row made = AreFilledInTurn cells row made
AreReadInOrder (laying.InCells t (scheme.Cards cells)) row made = AreCards cells row made
AreReadInOrder (laying.InCells t (scheme.Stack cells)) row made = ArePiled cells row made
AreReadInOrder (laying.InCells t scheme.Leaves) row made = ArePiledLeaves t row made
AreReadInOrder (laying.InCells t scheme.Zine) row made = AreReadFolded row made
AreReadInOrder other row made = ⊤

-- the sheets that are written are read in order, as by `impose nup 4 --turn left`: a law
abbrev pub WrittenAreRead : Type 0
WrittenAreRead = (j : RowJob) (made : List MadeSheet) → (are : AreTurned j made)
    → AreReadInOrder (laying_for j.asked j.papers.now are.asked.row) (row_printed j.asked are.asked.row) made

-- the booklet that is written is read in the order of the row that is chosen, as by `impose booklet --turn left`: a law
abbrev pub WrittenIsBound : Type 0
WrittenIsBound = (j : RowJob) (made : List MadeSheet) (t : Setting) (turned_backs : Bool) (creep : ℕ) (how : Signing) → (are : AreTurned j made)
    → j.asked.laying ≡ laying.InCells t (scheme.Booklet turned_backs creep) → j.asked.row.signing ≡ Some how
    → AreReadAs t.order.right_to_left turned_backs (sides_for (signing_of how) (length are.asked.row)) are.asked.row made

-- ---- in their cells, also turned

-- a page that is moved by whole 10^-5 of a point and lies in a cell lies there too once it is turned. It does so exactly, as its
-- sides are rounded up to these; but a page of which something is trimmed reaches past the cell by one more at most: a law
abbrev pub TurnedStaysInCell : Type 0
TurnedStaysInCell = (turn : Turn) (room : Room) (page : Paper) (cell : Cell) (past : ℕ) (item : Item) (width height scale : ℕ) (x y : ℤ)
    → page.width ≡ pos width → page.height ≡ pos height → item.scale ≡ pos scale → item.x ≡ in_points x → item.y ≡ in_points y
    → IsInCell room page cell past item
    → IsInCell room (turned_paper turn page) cell (kept_length room.trim past) (turned_item turn page item)

-- the room of sheet s, where left and right margins are exchanged on backs, or aren't
abbrev pub side_room : (exchanged : Bool) → Room → (s : ℕ) → Room
side_room true room s = room_on room s
side_room false room s = room

-- the page of slot c of a sheet with this room lies in that cell; it has its own paper
abbrev pub SlotIsInCell : (turns : ℕ → Turn) → Setting → Room → (c : ℕ) → MadeSlot → Type 0
SlotIsInCell turns t room c Blank = ⊤
SlotIsInCell turns t room c (Placed page item paper) = IsInCell room paper (cell_at room t.grid (row_of t.order t.grid c) (column_of t.order t.grid c))
    (kept_length t.room.trim (past_cell t (turned_paper (turns page) paper))) item

-- each page of these sheets lies in its cell
abbrev pub AreInCells : (turns : ℕ → Turn) → (exchanged : Bool) → Setting → List MadeSheet → Type 0
AreInCells turns exchanged t made = (s c : ℕ) (sheet : MadeSheet) (d : MadeSlot) → s < length made → c < length (slice_index_or made s sheet).slots
    → SlotIsInCell turns t (side_room exchanged t.room s) c (slice_index_or (slice_index_or made s sheet).slots c d)

-- a page lies in its cell of a zine, where pages of the first row are upside down
abbrev pub SlotIsInZine : (turns : ℕ → Turn) → Setting → (c : ℕ) → MadeSlot → Type 0
SlotIsInZine turns t c Blank = ⊤
SlotIsInZine turns t c (Placed page item paper) = (item.turn ≡ turn_sum (turns page) (zine_turn t c))
    × IsInCell t.room paper (cell_at t.room t.grid (row_of t.order t.grid c) (column_of t.order t.grid c)) (past_row c) item

abbrev pub AreInZines : (turns : ℕ → Turn) → Setting → List MadeSheet → Type 0
AreInZines turns t made = All (λ sheet. (c : ℕ) (d : MadeSlot) → c < length sheet.slots → SlotIsInZine turns t c (slice_index_or sheet.slots c d)) made

-- a page lies in its half of a side of a booklet, which creeps with its leaf
abbrev pub SlotIsInHalf : (turns : ℕ → Turn) → Setting → (by_half : Bool) → (k creep : ℕ) → MadeSlot → Type 0
SlotIsInHalf turns t by_half k creep Blank = ⊤
SlotIsInHalf turns t by_half k creep (Placed page item paper) = (item.turn ≡ turn_sum (turns page) (side_turn by_half))
    × IsInCell t.room paper (creeping_half t by_half k creep) (kept_length t.room.trim (kept_length t.room.trim 0)) item

abbrev pub AreInHalves : (turns : ℕ → Turn) → Setting → (turned_backs : Bool) → (creep leaves : ℕ) → List MadeSheet → Type 0
AreInHalves turns t turned_backs creep leaves made = (s k : ℕ) (sheet : MadeSheet) (d : MadeSlot) → s < length made → k < length (slice_index_or made s sheet).slots
    → SlotIsInHalf turns t (is_turned turned_backs s) k (creep_on creep leaves s) (slice_index_or (slice_index_or made s sheet).slots k d)

-- on sheets of a laying, in signatures of so many leaves, whose pages are turned and whose backs are moved
abbrev pub AreInTheirCells : (turns : ℕ → Turn) → (exchanged : Bool) → Laying → (leaves : ℕ) → List MadeSheet → Type 0
AreInTheirCells turns exchanged (laying.InCells t (scheme.Grid cells)) leaves made = AreInCells turns exchanged t made
AreInTheirCells turns exchanged (laying.InCells t (scheme.Cards cells)) leaves made = AreInCells turns exchanged t made
AreInTheirCells turns exchanged (laying.InCells t (scheme.Stack cells)) leaves made = AreInCells turns exchanged t made
AreInTheirCells turns exchanged (laying.InCells t scheme.Leaves) leaves made = AreInCells turns exchanged t made
AreInTheirCells turns exchanged (laying.InCells t (scheme.Booklet turned_backs creep)) leaves made = AreInHalves turns t turned_backs creep leaves made
AreInTheirCells turns exchanged (laying.InCells t scheme.Zine) leaves made = AreInZines turns t made
AreInTheirCells turns exchanged other leaves made = ⊤

-- the pages of the sheets that are written lie in their cells, as by `impose booklet --turn left`: a law
abbrev pub WrittenInCells : Type 0
WrittenInCells = (j : RowJob) (made : List MadeSheet) → (are : AreTurned j made)
    → AreInTheirCells (turn_on j.turns.now) j.swapped (laying_for j.asked j.papers.now are.asked.row) (leaves_in (sewn j.asked) are.asked.row) made

-- ---- between the margins and apart, also turned

-- if nothing is trimmed, and the setting leaves pages of no paper as they are, each sheet is in the room of its side: its pages lie between the margins,
-- and are apart by the gap
abbrev pub KeepRoom : (exchanged : Bool) → Setting → List MadeSheet → Type 0
KeepRoom exchanged t made = t.room.trim ≡ 0 → ((page : Paper) → is_whole t page ≡ false)
    → (s : ℕ) (d : MadeSheet) → s < length made → StandsInRoom (side_room exchanged t.room s) (slice_index_or made s d)

-- a slot of a booklet's side stays on its side of the fold, which is twice as far up as said, but for half of 10^-5 of a point
abbrev pub SlotKeepsFold : (is_before_fold : Bool) → Room → (twice : ℕ) → MadeSlot → Type 0
SlotKeepsFold is_before_fold room twice Blank = ⊤
SlotKeepsFold true room twice (Placed page item paper) = (p : Point) → IsOfPage room.trim paper p → (pos 2 *ℤ (stands paper item p).y) ≤ℤ fine (twice + 1)
SlotKeepsFold false room twice (Placed page item paper) = (p : Point) → IsOfPage room.trim paper p → fine twice ≤ℤ ((pos 2 *ℤ (stands paper item p).y) +ℤ fine 1)

-- the fold is one line for all sides of a booklet, in the middle of the sheet to 10^-5 of a point
pub record KeepFold (t : Setting) (turned_backs : Bool) (made : List MadeSheet) : Type 0 where
  pub twice : ℕ
  pub no_farther : twice ≤ whole_parts (nat_abs t.room.paper.height) + 1
  pub no_nearer : whole_parts (nat_abs t.room.paper.height) ≤ twice + 1
  pub sides : (s k : ℕ) (sheet : MadeSheet) (d : MadeSlot) → s < length made → k < length (slice_index_or made s sheet).slots
      → SlotKeepsFold (is_before_fold t.order.right_to_left (is_turned turned_backs s) k) t.room (fold_on t.room (is_turned turned_backs s) twice)
      (slice_index_or (slice_index_or made s sheet).slots k d)

-- each side of a booklet keeps margins, fold and what its leaf leaves of the gap as it creeps
abbrev pub KeepLeaves : Setting → (turned_backs : Bool) → (creep leaves : ℕ) → List MadeSheet → Type 0
KeepLeaves t turned_backs creep leaves made = t.room.trim ≡ 0 → StandCrept t.room creep leaves made × KeepFold t turned_backs made

abbrev pub KeepTheirRoom : (exchanged : Bool) → Laying → (leaves : ℕ) → List MadeSheet → Type 0
KeepTheirRoom exchanged (laying.InCells t (scheme.Grid cells)) leaves made = KeepRoom exchanged t made
KeepTheirRoom exchanged (laying.InCells t (scheme.Cards cells)) leaves made = KeepRoom exchanged t made
KeepTheirRoom exchanged (laying.InCells t (scheme.Stack cells)) leaves made = KeepRoom exchanged t made
KeepTheirRoom exchanged (laying.InCells t scheme.Leaves) leaves made = KeepRoom exchanged t made
KeepTheirRoom exchanged (laying.InCells t (scheme.Booklet turned_backs creep)) leaves made = KeepLeaves t turned_backs creep leaves made
KeepTheirRoom exchanged other leaves made = ⊤

-- the sheets that are written keep margins and gaps, as by `impose nup 4 --gap 1cm --turn left`: a law
abbrev pub WrittenKeepRoom : Type 0
WrittenKeepRoom = (j : RowJob) (made : List MadeSheet) → (are : AreTurned j made)
    → KeepTheirRoom j.swapped (laying_for j.asked j.papers.now are.asked.row) (leaves_in (sewn j.asked) are.asked.row) made
