-- Sheets that are printed on both sides, fronts and backs in turn: on backs left and right margins are exchanged. They are laid
-- as fronts are, and then moved. All here is this project's own rules.
use Rattle.std.specs.Prelude.{◌≡◌, ⊤, ℕ, ◌+◌, ◌%◌, ◌==◌, ◌<◌, ℤ, pos, ◌-ℤ◌, Bool, if◌then◌else◌, List, [], ◌∷◌, length, map, All, Option, Some, None}
use Rattle.std.specs.Prelude.{slice_index_or}
use Rattle.rules.specs.Papers.{Pt}
use Rattle.rules.specs.Specification.{Item}
use Rattle.rules.specs.Made.{MadeSlot, Blank, Placed, MadeSheet}
use Rattle.rules.specs.Rows.{Row}
use Rattle.layouts.specs.Placed.{Room}
use Rattle.row_sheets.specs.Filled.{Filling, grid_sheets}
use Rattle.row_sheets.specs.Standing.{AllStand, StandsInRoom}
use Rattle.row_runs.specs.Turning.{shifted}
use Rattle.row_runs.specs.declared.sheet_request.Laying.{Laying}
use Rattle.row_runs.specs.declared.sheet_request.Laying.TheVariants as laying

-- a sheet with its left and right margins exchanged
abbrev pub exchanged : Room → Room
exchanged room = record room { left = room.right; right = room.left }

-- how far it is from there to here, in 10^-5 of a point (RULES, 13.1)
abbrev pub swap_shift : Room → ℤ
swap_shift room = pos room.right -ℤ pos room.left

-- the room of a laying's cells, if it is to be exchanged on backs
abbrev pub swapped_room_in : (swapped : Bool) → Laying → Option Room
swapped_room_in swapped (laying.InCells t how) = if swapped then Some t.room else None
swapped_room_in swapped other = None

-- what lies in this room is moved into the exchanged one, if there is one
abbrev pub moved_item : Option Room → Item → Item
moved_item None item = item
moved_item (Some room) item = record item { x = shifted (swap_shift room) item.x }

abbrev pub moved_slot : Option Room → MadeSlot → MadeSlot
moved_slot swap Blank = Blank
moved_slot swap (Placed page item paper) = Placed page (moved_item swap item) paper

abbrev pub moved_sheet : Option Room → MadeSheet → MadeSheet
moved_sheet swap sheet = record { paper = sheet.paper; slots = map (moved_slot swap) sheet.slots }

-- every second sheet is a back, and only backs are moved
abbrev pub swapped_room_on : Option Room → (s : ℕ) → Option Room
swapped_room_on swap s = if s % 2 == 1 then swap else None

-- sheets from this one on
abbrev pub swapped_from : Option Room → (s : ℕ) → List MadeSheet → List MadeSheet
swapped_from swap s [] = []
swapped_from swap s (sheet ∷ made) = moved_sheet (swapped_room_on swap s) sheet ∷ swapped_from swap (s + 1) made

abbrev pub swapped : Option Room → List MadeSheet → List MadeSheet
swapped swap made = swapped_from swap 0 made

-- ---- laws

-- a page is moved by points
abbrev pub IsInPoints : MadeSlot → Type 0
IsInPoints Blank = ⊤
IsInPoints (Placed page item paper) = item.x.unit ≡ Pt

-- pages that are fitted into cells are: a law
abbrev pub FittedAreInPoints : Type 0
FittedAreInPoints = (f : Filling) (cells : ℕ) (row : Row) → All (λ sheet. All IsInPoints sheet.slots) (grid_sheets f cells row)

-- the room in which sheet s is
abbrev pub room_on : Room → (s : ℕ) → Room
room_on room s = if s % 2 == 1 then exchanged room else room

-- what lies in a room, inside and apart, does so on fronts, and in the exchanged room on backs: a law
abbrev pub SwappedStands : Type 0
SwappedStands = (room : Room) (made : List MadeSheet) → All (λ sheet. All IsInPoints sheet.slots) made → AllStand room made
    → (s : ℕ) (d : MadeSheet) → s < length made → StandsInRoom (room_on room s) (slice_index_or (swapped (Some room) made) s d)
