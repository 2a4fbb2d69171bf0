-- Sheets that are laid out well: what is placed on them keeps margins, gaps, and the fold. All here is this project's own
-- rules.
use Rattle.std.specs.Prelude.{◌≡◌, ⊤, ℕ, ◌-◌, ◌*◌, ◌+◌, ◌/◌, ◌%◌, ◌<◌, ◌≤◌, nat_abs, Bool, true, false, if◌then◌else◌, List, [], ◌∷◌, length}
use Rattle.std.specs.Prelude.{All, AllPairs, Option, Some, None, slice_index_or}
use Rattle.rules.specs.Papers.{Paper}
use Rattle.rules.specs.Signatures.{entry_of}
use Rattle.rules.specs.Specification.{Item}
use Rattle.rules.specs.Made.{MadeSlot, Blank, Placed, MadeSheet}
use Rattle.rules.specs.Rows.{Row}
use Rattle.layouts.specs.declared.setting.Setting.{Setting}
use Rattle.layouts.specs.Placed.{Room}
use Rattle.layouts.specs.Cells.{size, whole_parts, run_in}
use Rattle.layouts.specs.Fitted.{IsFitted, fitted, why_not_fitted}
use Rattle.layouts.specs.Laws.{IsPaper, ComesInRun, ComesInRunBefore}
use Rattle.row_sheets.specs.Filled.{Filling, SlotIsInside, SlotsAreApart, filled, grid_entry, is_turned}
use Rattle.row_sheets.specs.Creep.{StaysBefore, StaysBehind, creep_on, why_not_creeping}

-- ---- in cells

-- a sheet lies in a room: it is of the room's paper, each page on it lies on what the margins leave, and each two of its
-- pages are apart by the gap
pub record StandsInRoom (room : Room) (sheet : MadeSheet) : Type 0 where
  pub paper : sheet.paper ≡ room.paper
  pub inside : All (SlotIsInside room) sheet.slots
  pub apart : AllPairs (SlotsAreApart room) sheet.slots

abbrev pub AllStand : Room → List MadeSheet → Type 0
AllStand room made = All (StandsInRoom room) made

-- ---- on leaves

-- a slot stays before a line across the sheet, or beyond it; the line is twice as far up as said
abbrev pub SlotStaysBefore : Room → (twice : ℕ) → MadeSlot → Type 0
SlotStaysBefore room twice Blank = ⊤
SlotStaysBefore room twice (Placed page item paper) = StaysBefore room twice paper item

abbrev pub SlotStaysBehind : Room → (twice : ℕ) → MadeSlot → Type 0
SlotStaysBehind room twice Blank = ⊤
SlotStaysBehind room twice (Placed page item paper) = StaysBehind room twice paper item

-- a side of a leaf: it is of the room's paper and has two slots; each page lies on what the margins leave, and none crosses
-- the fold
pub record StandsOnLeaf (room : Room) (twice : ℕ) (first_is_before : Bool) (side : MadeSheet) : Type 0 where
  pub paper : side.paper ≡ room.paper
  pub first : MadeSlot
  pub second : MadeSlot
  pub slots : side.slots ≡ first ∷ second ∷ []
  pub first_inside : SlotIsInside room first
  pub second_inside : SlotIsInside room second
  pub before : SlotStaysBefore room twice (if first_is_before then first else second)
  pub behind : SlotStaysBehind room twice (if first_is_before then second else first)

-- where the fold is on a side, and whether the first of its two slots is before it: if the side is turned by half, both
-- are turned
abbrev pub fold_on : Room → (by_half : Bool) → (twice : ℕ) → ℕ
fold_on room by_half twice = if by_half then 2 * whole_parts (nat_abs room.paper.height) - twice else twice

abbrev pub is_first_before : (right_to_left by_half : Bool) → Bool
is_first_before right_to_left by_half = if by_half then right_to_left else (if right_to_left then false else true)

-- the sides of leaves: the fold is one line for them all, in the middle of the sheet to 10^-5 of a point. Leaves that don't
-- creep have the gap at their fold
pub record LeavesStand (t : Setting) (turned_backs : Bool) (creep : ℕ) (made : List MadeSheet) : Type 0 where
  pub twice : ℕ
  pub no_farther : twice ≤ whole_parts (nat_abs t.room.paper.height) + 1
  pub no_nearer : whole_parts (nat_abs t.room.paper.height) ≤ twice + 1
  pub sides : (s : ℕ) (d : MadeSheet) → s < length made
      → StandsOnLeaf t.room (fold_on t.room (is_turned turned_backs s) twice)
      (is_first_before t.order.right_to_left (is_turned turned_backs s)) (slice_index_or made s d)
  pub apart : creep ≡ 0 → AllStand t.room made

-- ---- what such sheets rest on

-- a page of this paper has its place in the cells of a sheet
pub record FitsIn (t : Setting) (page : Paper) : Type 0 where
  pub sheet_is : IsPaper t.room.paper
  pub page_is : IsPaper page
  pub fits : why_not_fitted t page ≡ None

-- a page fits into the halves of a leaf that creeps by this
pub record FitsOnLeaf (t : Setting) (page : Paper) (creep : ℕ) : Type 0 where
  pub sheet_is : IsPaper t.room.paper
  pub page_is : IsPaper page
  pub fits : why_not_creeping t page creep ≡ None

-- this holds of the paper of an entry, if it has a page
abbrev pub IfPage : Filling → (Holds : Paper → Type 0) → (entry : Option ℕ) → Type 0
IfPage f Holds None = ⊤
IfPage f Holds (Some page) = Holds (f.paper_of page)

-- a slot is blank, or has a page of a paper of which this holds, which lies as one of its paper does
abbrev pub IsSlotFor : (Holds : Paper → Type 0) → (item : Paper → Item) → MadeSlot → Type 0
IsSlotFor Holds item Blank = ⊤
IsSlotFor Holds item (Placed page it paper) = Holds paper × (it ≡ item paper)

-- an entry of a row has its place
abbrev pub EntryFits : Filling → (entry : Option ℕ) → Type 0
EntryFits f entry = IfPage f (λ page. FitsIn f.setting page) entry

abbrev pub EntryCreeps : Filling → (creep : ℕ) → (entry : Option ℕ) → Type 0
EntryCreeps f creep entry = IfPage f (λ page. FitsOnLeaf f.setting page creep) entry

-- each page of a row has its place: nothing had to be refused
abbrev pub AllEntriesFit : Filling → Row → Type 0
AllEntriesFit f row = (i : ℕ) → EntryFits f (entry_of row i)

-- all pages of a row fit on creeping leaves, in signatures of `leaves` leaves
abbrev pub AllFitOnLeaves : Filling → (creep leaves : ℕ) → Row → Type 0
AllFitOnLeaves f creep leaves row =
    (s k : ℕ) → k < 2 → EntryCreeps f (creep_on creep leaves s) (grid_entry 2 row s k)

-- ---- what follows for the sheets

-- the slot of a cell: its page is fitted into that cell
abbrev pub SlotIsFitted : Setting → (c : ℕ) → MadeSlot → Type 0
SlotIsFitted t c Blank = ⊤
SlotIsFitted t c (Placed page item paper) = IsFitted t paper c item

-- the slots of two cells: as one reads the sheet, in the order of their cells
abbrev pub SlotsAreInOrder : Setting → (c d : ℕ) → (one other : MadeSlot) → Type 0
SlotsAreInOrder t c d Blank other = ⊤
SlotsAreInOrder t c d (Placed page item paper) Blank = ⊤
SlotsAreInOrder t c d (Placed page item paper) (Placed page' item' paper') =
    (let run = run_in t.order.run t.order.turned t.grid in
    (c % run < d % run → ComesInRun t.order.run t.room t.order.turned t.order.right_to_left paper item paper' item')
    × (c / run < d / run → ComesInRunBefore t.order.run t.room t.order.turned t.order.right_to_left paper item paper' item'))

-- a sheet whose pages lie in their cells: each is fitted into its own, and they read in order
pub record StandsInCells (t : Setting) (sheet : MadeSheet) : Type 0 where
  pub fitted : (c : ℕ) (d : MadeSlot) → c < length sheet.slots → SlotIsFitted t c (slice_index_or sheet.slots c d)
  pub in_order : (b c : ℕ) (d : MadeSlot) → b < length sheet.slots → c < length sheet.slots
      → SlotsAreInOrder t b c (slice_index_or sheet.slots b d) (slice_index_or sheet.slots c d)

-- sheets that are filled with pages that have their places are so: a law
abbrev pub FilledStandsInCells : Type 0
FilledStandsInCells = (f : Filling) (sheets cells : ℕ) (entry : (s c : ℕ) → Option ℕ) → cells ≤ size f.setting.grid
    → ((s c : ℕ) → EntryFits f (entry s c)) → All (StandsInCells f.setting) (filled f sheets cells entry)
