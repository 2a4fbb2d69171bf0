-- How the sheets of a laying are read: on which sides they are printed, and where their places are.
use Rattle.std.specs.Prelude.{ℕ, false, if◌then◌else◌, max, nat_abs, nat_lt, List, [], ◌∷◌, length, Option, Some, None}
use Rattle.rules.specs.Papers.{Paper}
use Rattle.rules.specs.Specification.{Item, Spec}
use Rattle.layouts.specs.Cells.{Grid, held_height, held_width}
use Rattle.layouts.specs.Grids.{plain_order}
use Rattle.layouts.specs.Placed.{Room}
use Rattle.layouts.specs.declared.arrangement.Turned.{Turned}
use Rattle.layouts.specs.declared.arrangement.Turned.TheVariants as sideways
use Rattle.layouts.specs.declared.setting.Setting.{Setting}
use Rattle.row_sheets.specs.declared.poster.Poster.{Poster}
use Rattle.preview.specs.declared.naming.Edge.{Edge}
use Rattle.preview.specs.declared.naming.Edge.TheVariants.{Short, Long}
use Rattle.preview.specs.declared.naming.Sides.{Sides}
use Rattle.preview.specs.declared.naming.Sides.TheVariants as sides
use Rattle.preview.specs.declared.reading.Places.{Places}
use Rattle.preview.specs.declared.reading.Places.TheVariants.{Cells, Tiles}
use Rattle.preview.specs.declared.reading.Reading.{Reading}
use Rattle.row_runs.specs.declared.sheet_request.Laying.{Laying}
use Rattle.row_runs.specs.declared.sheet_request.Laying.TheVariants as laying
use Rattle.row_sheets.specs.declared.fill.Scheme.TheVariants as scheme

-- ---- edges

-- a side of the sheet as one reads it: if what is on the pages lies on its side, it is the other one
abbrev pub side_read : Turned → (side other : ℕ) → ℕ
side_read sideways.Upright side other = side
side_read sideways.Left side other = other
side_read sideways.Right side other = other

abbrev pub width_read : Setting → ℕ
width_read t =
    side_read t.order.turned (held_width t.grid.turned t.room.paper) (held_height t.grid.turned t.room.paper)

abbrev pub height_read : Setting → ℕ
height_read t =
    side_read t.order.turned (held_height t.grid.turned t.room.paper) (held_width t.grid.turned t.room.paper)

-- leaves are turned over like the page of a book, as one reads them: on the edge that is as long as they are high
abbrev pub edge_at_side : Setting → Edge
edge_at_side t = if nat_lt (height_read t) (width_read t) then Short else Long

-- leaves are printed on both sides, also those of a booklet, which folds parallel to the shorter edge
abbrev pub sides_in : Laying → Sides
sides_in (laying.InCells t scheme.Leaves) = sides.Both (edge_at_side t)
sides_in (laying.InCells t (scheme.Booklet turned_backs creep)) = sides.Both (if turned_backs then Long else Short)
sides_in other = sides.One

-- if this room is exchanged on backs, these are behind fronts as sheets are printed
abbrev pub edge_as_printed : Paper → Edge
edge_as_printed paper = if nat_lt (nat_abs paper.height) (nat_abs paper.width) then Short else Long

abbrev pub sides_by : (swap : Option Room) → Laying → Sides
sides_by None l = sides_in l
sides_by (Some room) l = sides.Both (edge_as_printed room.paper)

-- ---- places

-- a sheet with one place
abbrev pub single : Grid
single = record { rows = 1; columns = 1; turned = false }

-- a poster without tiles has no sheets
abbrev pub tiles_in : Poster → Grid
tiles_in p = record { rows = max 1 p.rows; columns = max 1 p.columns; turned = false }

-- how many items the longest of these groups has, or this number if it is more
abbrev pub most_items : ℕ → List (List Item) → ℕ
most_items n [] = n
most_items n (group ∷ groups) = most_items (max n (length group)) groups

-- places side by side, as many as there are items on any sheet of a specification
abbrev pub listed : Spec → Grid
listed spec = record { rows = 1; columns = most_items 1 spec.groups; turned = false }

abbrev pub places_read : Laying → Places
places_read (laying.AsTheyAre blank) = Cells single plain_order
places_read (laying.InCells t how) = Cells t.grid t.order
places_read (laying.Poster poster) = Tiles (tiles_in poster)
places_read (laying.BySpec spec sheet page) = Cells (listed spec.now) plain_order

abbrev pub reading_in : (swap : Option Room) → Laying → Reading
reading_in swap l = record { sides = sides_by swap l; places = places_read l }
