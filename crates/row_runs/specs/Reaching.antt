-- Places that can be written: offsets have less than 100,000 points. A page that is moved on a back, and then turned, may come to
-- have others. All here is this project's own rules.
use Rattle.std.specs.Prelude.{◌≡◌, ◌<◌, ◌≤◌, ℕ, ◌+◌, nat_abs, nat_le, Bool, true, false, ◌&&◌, List, [], ◌∷◌, length, Option, Some, None}
use Rattle.std.specs.List.{list_all}
use Rattle.rules.specs.Numbers.{greatest_number}
use Rattle.rules.specs.Papers.{Paper}
use Rattle.rules.specs.Run.{most_sheets}
use Rattle.rules.specs.Specification.{Item, Measure, Turn}
use Rattle.rules.specs.Made.{MadeSlot, Blank, Placed, MadeSheet}
use Rattle.layouts.specs.Placed.{Room}
use Rattle.sheet_plan.specs.declared.error.MadeError.TheVariants as plan
use Rattle.pagespec.specs.declared.item.Turn.{Turn as PageTurn}
use Rattle.row_runs.specs.Turning.{turn_on, turned_item}
use Rattle.row_runs.specs.SwappedMargins.{swapped_room_on, moved_item}
use Rattle.row_runs.specs.declared.error.SheetError.{SheetError}
use Rattle.row_runs.specs.declared.error.SheetError.TheVariants as error

-- an offset of less than 100,000 points
abbrev pub is_writable_offset : Measure → Bool
is_writable_offset m = nat_le (nat_abs m.number) greatest_number

-- a page has such offsets once it is moved to the side, if it is
abbrev pub is_moved_near : Option Room → Item → Bool
is_moved_near None item = true
is_moved_near (Some room) item = is_writable_offset (moved_item (Some room) item).x

-- an item is within reach once it is turned
abbrev pub is_turned_near : Turn → (paper : Paper) → Item → Bool
is_turned_near turn paper item = let turned = turned_item turn paper item in is_writable_offset turned.x && is_writable_offset turned.y

-- the page of a slot, if there is one, is within reach once it is moved and turned
abbrev pub is_item_reached : Turn → Option Room → (paper : Paper) → Item → Bool
is_item_reached turn swap paper item = is_moved_near swap item && is_turned_near turn paper (moved_item swap item)

abbrev pub is_slot_reached : (turns : ℕ → Turn) → Option Room → MadeSlot → Bool
is_slot_reached turns swap Blank = true
is_slot_reached turns swap (Placed page item paper) = is_item_reached (turns page) swap paper item

-- each page of these sheets, the first of which is sheet s, is within reach once it is moved and turned
abbrev pub are_reached_from : (turns : ℕ → Turn) → Option Room → (s : ℕ) → List MadeSheet → Bool
are_reached_from turns swap s [] = true
are_reached_from turns swap s (sheet ∷ made) =
    list_all (is_slot_reached turns (swapped_room_on swap s)) sheet.slots && are_reached_from turns swap (s + 1) made

abbrev pub are_reached : (turns : ℕ → Turn) → Option Room → List MadeSheet → Bool
are_reached turns swap made = are_reached_from turns swap 0 made

-- pages have turns, or are moved on backs
abbrev pub is_changed : (turns : List PageTurn) → Option Room → Bool
is_changed [] None = false
is_changed turns swap = true

-- a refusal says that there are more sheets than can be planned, or that there aren't and a page isn't reached, which is so only
-- of pages that are turned or moved
abbrev pub IsNotReached : (turns : List PageTurn) → Option Room → List MadeSheet → SheetError → Type 0
IsNotReached turns swap made (error.Sheets plan.TooManySheets) = most_sheets < length made
IsNotReached turns swap made error.OutOfReach =
    (is_changed turns swap ≡ true) × (length made ≤ most_sheets) × (are_reached (turn_on turns) swap made ≡ false)
IsNotReached turns swap made other = ⊥
