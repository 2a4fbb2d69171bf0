-- The places of sheets that wait for their turn.
use Rattle.std.specs.Prelude.{◌≢◌, ℕ, zero, suc, ◌+◌, ◌%◌, ◌<◌, ◌==◌, Bool, false, if◌then◌else◌, List, [], ◌∷◌, length, max}
use Rattle.std.specs.Prelude.{All, AllPairs, slice_get, Option, Some, None}
use Rattle.sheet_text.specs.Texts.{TextsView, sheets_of}
use Rattle.sheet_writer.specs.declared.reorder_buffer.ReorderBuffer.{ReorderBuffer}
use Rattle.sheet_writer.specs.declared.reorder_buffer.Place.{Place}

-- the last of these sheets
abbrev pub last_entry : List ℕ → ℕ
last_entry [] = 0
last_entry (sheet ∷ sheets) = max sheet (last_entry sheets)

-- the number of a sheet's place
abbrev pub buffer_place : ReorderBuffer → ℕ → ℕ
buffer_place early sheet = sheet % length early.groups.items

-- each of these sheets has a place, and no two of them the same one
abbrev pub HavePlacesOfTheirOwn : ReorderBuffer → List ℕ → Type 0
HavePlacesOfTheirOwn early sheets = All (λ sheet. buffer_place early sheet < length early.places.items) sheets
    × AllPairs (λ one other. buffer_place early one ≢ buffer_place early other) sheets

-- what is at the place of this sheet, if there is such a place
abbrev pub in_place : ReorderBuffer → ℕ → Option (Option TextsView)
in_place early sheet = slice_get early.groups.items (buffer_place early sheet)

-- a place is that of the sheet with this number
abbrev pub is_of_sheet : ℕ → Option ℕ → Bool
is_of_sheet sheet None = false
is_of_sheet sheet (Some number) = number == sheet

-- in this group of sheets it is the one with this index
abbrev pub is_nth : ℕ → ℕ → Option (Option TextsView) → Bool
is_nth sheet nth None = false
is_nth sheet nth (Some None) = false
is_nth sheet nth (Some (Some finished)) = is_of_sheet sheet (slice_get (sheets_of finished) nth)

-- a sheet is where its place says
abbrev pub is_there : ℕ → List (Option TextsView) → Option Place → Bool
is_there sheet groups None = false
is_there sheet groups (Some place) = is_nth sheet place.nth (slice_get groups place.group)

-- the sheet came, and some sheet that came with it isn't written
abbrev pub has_come : ReorderBuffer → ℕ → Bool
has_come early sheet = is_there sheet early.groups.items (slice_get early.places.items (buffer_place early sheet))

-- the number of sheets that didn't come, among n from the first one on
abbrev pub not_come : ReorderBuffer → (first n : ℕ) → ℕ
not_come early first zero = 0
not_come early first (suc n) = not_come early first n + (if has_come early (first + n) then 0 else 1)
