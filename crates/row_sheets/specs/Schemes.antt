-- The ways in which a row is put into cells.
use Rattle.std.specs.Prelude.{◌≡◌, ℕ, ◌-◌, ◌%◌, ◌<◌, ◌≤◌, nat_lt, if◌then◌else◌, ⊤, List, map, Option}
use Rattle.std.specs.List.{range_with_len}
use Rattle.rules.specs.Papers.{Paper}
use Rattle.rules.specs.Specification.{Item}
use Rattle.rules.specs.Made.{MadeSheet, MadeSlot}
use Rattle.rules.specs.Rows.{Row}
use Rattle.layouts.specs.Cells.{size}
use Rattle.layouts.specs.declared.error.ArrangementError.{ArrangementError}
use Rattle.layouts.specs.declared.setting.Setting.{Setting}
use Rattle.layouts.specs.Fitted.{fitted}
use Rattle.row_sheets.specs.Creep.{AreHalves, creep_on, creeping, creeping_sheets, first_over_fold}
use Rattle.row_sheets.specs.Filled.{Filling, card_sheets, duplex_sheets, grid_sheets, in_half, is_turned, placed, stack_sheets, zine_sheets}
use Rattle.row_sheets.specs.Shapes.{entry_in_cell, first_refused}
use Rattle.row_sheets.specs.Standing.{AllEntriesFit, AllFitOnLeaves, AllStand, FitsIn, FitsOnLeaf, IfPage, IsSlotFor, LeavesStand}
use Rattle.row_sheets.specs.Zine.{AreZineCells, closer}
use Rattle.row_sheets.specs.declared.fill.Scheme.{Scheme}
use Rattle.row_sheets.specs.declared.fill.Shape.{Shape}
use Rattle.row_sheets.specs.declared.fill.Scheme.TheVariants as scheme

-- a scheme has at least one cell, and the sheet has all of them; those of a booklet are its halves, those of a zine two rows of four
abbrev pub MayBeFilled : Scheme → Setting → Type 0
MayBeFilled (scheme.Grid cells) t = (0 < cells) × (cells ≤ size t.grid)
MayBeFilled (scheme.Cards cells) t = (0 < cells) × (cells ≤ size t.grid)
MayBeFilled (scheme.Stack cells) t = (0 < cells) × (cells ≤ size t.grid)
MayBeFilled scheme.Leaves t = ⊤
MayBeFilled (scheme.Booklet turned_backs creep) t = AreHalves t
MayBeFilled scheme.Zine t = AreZineCells t

-- a row in the cells of sheets; if it is in signatures, each has so many leaves (RULES, 14)
abbrev pub sheets_by_scheme : Scheme → Filling → (leaves : ℕ) → Row → List MadeSheet
sheets_by_scheme (scheme.Grid cells) f leaves row = grid_sheets f cells row
sheets_by_scheme (scheme.Cards cells) f leaves row = card_sheets f cells row
sheets_by_scheme (scheme.Stack cells) f leaves row = stack_sheets f cells row
sheets_by_scheme scheme.Leaves f leaves row = duplex_sheets f row
sheets_by_scheme (scheme.Booklet turned_backs creep) f leaves row = creeping_sheets f turned_backs creep leaves row
sheets_by_scheme scheme.Zine f leaves row = zine_sheets f row

-- how a page of this paper lies in cell c of sheet s
abbrev pub item_by : Scheme → Setting → (leaves s c : ℕ) → (page : Paper) → Item
item_by (scheme.Booklet turned_backs creep) t leaves s c page = creeping t (is_turned turned_backs s) page c (creep_on creep leaves s)
item_by scheme.Zine t leaves s c page = in_half t (nat_lt c 4) page (if nat_lt c 4 then 7 - c else c)
item_by other t leaves s c page = fitted t page c

-- an entry there
abbrev pub slot_by : Scheme → Filling → (leaves s c : ℕ) → Option ℕ → MadeSlot
slot_by how f leaves s c entry = placed f (λ page. item_by how f.setting leaves s c page) entry

-- so many sheets of such a shape, of which each cell has its entry of the row
abbrev pub shaped : Shape → Filling → Row → (sheets : ℕ) → List MadeSheet
shaped h f row sheets = map (λ s. record {
  paper = f.setting.room.paper;
  slots = map (λ c. slot_by h.scheme f h.leaves s c (entry_in_cell h f.setting row s c)) (range_with_len 0 h.cells);
}) (range_with_len 0 sheets)

-- a page of this paper has its place on sheet s
abbrev pub FitsBy : Scheme → Setting → (leaves s : ℕ) → (page : Paper) → Type 0
FitsBy (scheme.Booklet turned_backs creep) t leaves s page = FitsOnLeaf t page (creep_on creep leaves s)
FitsBy other t leaves s page = FitsIn t page

-- and so have an entry, and that of cell c
abbrev pub EntryFitsBy : Scheme → Filling → (leaves s : ℕ) → Option ℕ → Type 0
EntryFitsBy how f leaves s entry = IfPage f (λ page. FitsBy how f.setting leaves s page) entry

abbrev pub CellFits : Shape → Filling → Row → (s c : ℕ) → Type 0
CellFits h f row s c = EntryFitsBy h.scheme f h.leaves s (entry_in_cell h f.setting row s c)

-- a slot has what pages of its paper have in cell c of sheet s, or is blank
abbrev pub IsOfCell : Scheme → Setting → (leaves s c : ℕ) → MadeSlot → Type 0
IsOfCell how t leaves s c slot = IsSlotFor (λ page. FitsBy how t leaves s page) (λ page. item_by how t leaves s c page) slot

-- pages lie on these two sheets in the same way: on leaves, if they are on the same side and creep as far
abbrev pub LieAlike : Scheme → (leaves one other : ℕ) → Type 0
LieAlike (scheme.Booklet turned_backs creep) leaves one other = (one % 2 ≡ other % 2) × (creep_on creep leaves one ≡ creep_on creep leaves other)
LieAlike any leaves one other = ⊤

-- why it can't be in the cells: the first page of the row that doesn't fit its own
abbrev pub why_not_in : Scheme → Filling → (leaves : ℕ) → Row → Option ArrangementError
why_not_in (scheme.Booklet turned_backs creep) f leaves row = first_over_fold f creep leaves row
why_not_in other f leaves row = first_refused f row

-- each page of the row has its place: for none of them there is such a reason
abbrev pub FitBy : Scheme → Filling → (leaves : ℕ) → Row → Type 0
FitBy (scheme.Booklet turned_backs creep) f leaves row = AllFitOnLeaves f creep leaves row
FitBy other f leaves row = AllEntriesFit f row

-- each page lies on what the margins leave of its sheet, and each two of a sheet are apart by the gap, on zines to 10^-5 of a point; on leaves
-- nothing crosses the fold
abbrev pub StandBy : Scheme → Setting → List MadeSheet → Type 0
StandBy (scheme.Booklet turned_backs creep) t made = LeavesStand t turned_backs creep made
StandBy scheme.Zine t made = AllStand (closer t.room) made
StandBy other t made = AllStand t.room made
