-- Pages in cells, each in the middle of its cell, with margins along the edges of the sheet and gaps between cells.
-- Sides of cells and offsets are whole numbers of 10^-5 of a point, which are 1,270,000 grains: with these a shift is
-- printed exactly. Both are rounded down, and so is the scale, in 10^-9; so a page is never larger than its cell, nor
-- the grid than what the margins leave of the sheet.
-- The gap is no part of the pages, so it isn't scaled: it is added to the side once, as if one more gap came after the
-- last cell, the side is cut into equal parts, and each part gives up one gap.
use Rattle.std.specs.Prelude.{ℕ, ◌+◌, ◌-◌, ◌*◌, ◌/◌, ◌%◌, min, ℤ, pos, ◌+ℤ◌, ◌-ℤ◌, ◌*ℤ◌, nat_abs, Bool, true}
use Rattle.std.specs.Prelude.{false, ◌==◌, if◌then◌else◌}
use Rattle.rules.specs.Papers.{Paper, Pt}
use Rattle.rules.specs.Specification.{Item, Measure, Turn, Upright, Left, Half, Right}
use Rattle.layouts.specs.Placed.{Room}
use Rattle.layouts.specs.declared.arrangement.FillOrder.{FillOrder}
use Rattle.layouts.specs.declared.arrangement.FillOrder.TheVariants.{Rows, Columns}
use Rattle.layouts.specs.declared.arrangement.Turned.{Turned}
use Rattle.layouts.specs.declared.arrangement.Turned.TheVariants as sideways
use Rattle.layouts.specs.declared.arrangement.Order.{Order}

-- rows and columns, as one holds the sheet for its pages to be upright; the pages are turned to the left, or not
pub record Grid : Type 0 where
  pub rows : ℕ
  pub columns : ℕ
  pub turned : Bool

-- how many cells it has
abbrev pub size : Grid → ℕ
size g = g.rows * g.columns

-- how wide and how high the sheet is as one holds it, in grains (RULES, 13.2)
abbrev pub held_width : Bool → (sheet : Paper) → ℕ
held_width false sheet = nat_abs sheet.width
held_width true sheet = nat_abs sheet.height

abbrev pub held_height : Bool → (sheet : Paper) → ℕ
held_height false sheet = nat_abs sheet.height
held_height true sheet = nat_abs sheet.width

-- what is kept free along one side of a sheet: before its cells, after them, and between them; and what is trimmed
pub record Along : Type 0 where
  pub before : ℕ
  pub after : ℕ
  pub gap : ℕ
  pub trim : ℕ

-- along the width of the sheet, and along its height
abbrev pub along_width : Room → Along
along_width room = record { before = room.left; after = room.right; gap = room.gutter_across; trim = room.trim }

abbrev pub along_height : Room → Along
along_height room = record { before = room.bottom; after = room.top; gap = room.gutter_up; trim = room.trim }

-- the margins and the gap across a sheet, with the sheet held as it is read
abbrev pub held_across : Bool → Room → Along
held_across false room = along_width room
held_across true room = along_height room

abbrev pub held_down : Bool → Room → Along
held_down false room = along_height room
held_down true room = along_width room

-- ---- cells

-- what is kept of a length: if pages are trimmed, 10^-5 of a point more, since how far they are moved back is rounded
-- (RULES, 13.1)
abbrev pub kept_length : (trim length : ℕ) → ℕ
kept_length trim length = if trim == 0 then length else length + 1

-- what the margins leave of a side, in grains (RULES, 13.2)
abbrev pub left_free : Along → (side : ℕ) → ℕ
left_free a side = side - 1_270_000 * (kept_length a.trim a.before + kept_length a.trim a.after)

-- one of so many equal parts of a side of so many grains, in 10^-5 of a point
abbrev pub part : (side parts : ℕ) → ℕ
part side parts = side / (1_270_000 * parts)

-- from where a cell begins to where the next one begins
abbrev pub pitch : Along → (side parts : ℕ) → ℕ
pitch a side parts = part (left_free a side + 1_270_000 * kept_length a.trim a.gap) parts

abbrev pub step_across : Room → Grid → ℕ
step_across room g = pitch (held_across g.turned room) (held_width g.turned room.paper) g.columns

abbrev pub step_down : Room → Grid → ℕ
step_down room g = pitch (held_down g.turned room) (held_height g.turned room.paper) g.rows

-- how much of a side a cell has; it has no room if a gap takes it all
abbrev pub cell : Along → (side parts : ℕ) → ℕ
cell a side parts = pitch a side parts - kept_length a.trim a.gap

-- how wide and how high a cell is
abbrev pub wide : Room → Grid → ℕ
wide room g = cell (held_across g.turned room) (held_width g.turned room.paper) g.columns

abbrev pub high : Room → Grid → ℕ
high room g = cell (held_down g.turned room) (held_height g.turned room.paper) g.rows

-- ---- the gaps between cells

-- so many 10^-5 of a point, in grains
abbrev pub grains_in : ℕ → ℕ
grains_in n = 1_270_000 * n

-- how far the middle of the gap before part k of a side lies, in grains; after the last part it is as if one more came
-- (RULES, 15)
abbrev pub gap_at : Along → (side parts k : ℕ) → ℕ
gap_at a side parts k = grains_in (kept_length a.trim a.before + k * pitch a side parts) - 635_000 * kept_length a.trim a.gap

-- how many cells are side by side as the sheet lies, and how many one above another: a grid lies on its side if its
-- pages do
abbrev pub cells_across : Grid → ℕ
cells_across g = if g.turned then g.rows else g.columns

abbrev pub cells_up : Grid → ℕ
cells_up g = if g.turned then g.columns else g.rows

-- ---- pages in cells

-- what counts of a page's side, in grains (RULES, 13.1)
abbrev pub trimmed_side : Room → (side : ℤ) → ℕ
trimmed_side room side = nat_abs side - 2_540_000 * room.trim

-- the largest scale, in 10^-9, that brings a side of so many grains into a cell of so many 10^-5 of a point
abbrev pub fitting : (cell side : ℕ) → ℕ
fitting cell side = 1_270_000_000_000_000 * cell / side

-- the largest scale that brings a page into a cell; 0 if nothing is left for cells
abbrev pub scale_in : (page : Paper) → Room → Grid → ℕ
scale_in page room g =
    min (fitting (wide room g) (trimmed_side room page.width)) (fitting (high room g) (trimmed_side room page.height))

-- ---- how large pages can be in exact parts, by which grids are compared

-- the largest scale, in 10^-9, that so many equal parts of what the margins and the gaps leave of a side allow
-- (RULES, 13.5)
abbrev pub exact_along : Along → (side parts page : ℕ) → ℕ
exact_along a side parts page =
    (1_000_000_000 * left_free a side + 1_270_000_000_000_000 * kept_length a.trim a.gap
    - 1_270_000_000_000_000 * (kept_length a.trim a.gap * parts)) / (page * parts)

abbrev pub exact_scale : (page : Paper) → Room → Grid → ℕ
exact_scale page room g =
    min (exact_along (held_across g.turned room) (held_width g.turned room.paper) g.columns (trimmed_side room page.width))
    (exact_along (held_down g.turned room) (held_height g.turned room.paper) g.rows (trimmed_side room page.height))

-- ---- where pages are

-- half of what a scaled side leaves of its cell, in 10^-5 of a point (RULES, 13.4)
abbrev pub slack : (cell side scale : ℕ) → ℕ
slack cell side scale = (1_270_000_000_000_000 * cell - scale * side) / 2_540_000_000_000_000

abbrev pub slack_x : (page : Paper) → Room → Grid → (scale : ℕ) → ℕ
slack_x page room g s = slack (wide room g) (trimmed_side room page.width) s

abbrev pub slack_y : (page : Paper) → Room → Grid → (scale : ℕ) → ℕ
slack_y page room g s = slack (high room g) (trimmed_side room page.height) s

-- how long what is trimmed along a side is on the sheet, in 10^-5 of a point, rounded down
abbrev pub trimmed : Room → (scale : ℕ) → ℕ
trimmed room s = s * room.trim / 1_000_000_000

-- where the corner of what counts of the page comes to lie, about which it is turned, if it is in this row and column
abbrev pub corner_x : (page : Paper) → Room → Grid → (scale row column : ℕ) → ℕ
corner_x page room g s row column =
    if g.turned then kept_length room.trim room.left + row * step_down room g + (high room g - slack_y page room g s)
    else kept_length room.trim room.left + column * step_across room g + slack_x page room g s

abbrev pub corner_y : (page : Paper) → Room → Grid → (scale row column : ℕ) → ℕ
corner_y page room g s row column =
    if g.turned then kept_length room.trim room.bottom + column * step_across room g + slack_x page room g s
    else kept_length room.trim room.bottom + (g.rows - (row + 1)) * step_down room g + slack_y page room g s

-- how far to the right, and how far up, the page is moved, in 10^-5 of a point
abbrev pub to_right : (page : Paper) → Room → Grid → (scale row column : ℕ) → ℤ
to_right page room g s row column =
    if g.turned then pos (corner_x page room g s row column) +ℤ pos (trimmed room s)
    else pos (corner_x page room g s row column) -ℤ pos (trimmed room s)

abbrev pub to_top : (page : Paper) → Room → Grid → (scale row column : ℕ) → ℤ
to_top page room g s row column = pos (corner_y page room g s row column) -ℤ pos (trimmed room s)

-- a length in 10^-5 of a point, as a measure
abbrev pub in_points : ℤ → Measure
in_points z = record { number = pos 10_000 *ℤ z; unit = Pt }

abbrev pub turn_in : Grid → Turn
turn_in g = if g.turned then Left else Upright

-- page k, which is counted from 0: turned so, at this scale in 10^-9, and so far to the right and up
abbrev pub item_at : (k : ℕ) → Turn → (scale : ℕ) → (x y : ℤ) → Item
item_at k turn s x y = record { page = k; from_end = false; turn = turn; scale = pos s; x = in_points x; y = in_points y }

-- page k in this row and column, at this scale
abbrev pub cell_item : (page : Paper) → Room → Grid → (scale k row column : ℕ) → Item
cell_item page room g s k row column = item_at k (turn_in g) s (to_right page room g s row column) (to_top page room g s row column)

-- ---- the order of cells

-- the columns and the rows as one reads the sheet
abbrev pub read_columns : Turned → Grid → ℕ
read_columns sideways.Upright g = g.columns
read_columns sideways.Left g = g.rows
read_columns sideways.Right g = g.rows

abbrev pub read_rows : Turned → Grid → ℕ
read_rows sideways.Upright g = g.rows
read_rows sideways.Left g = g.columns
read_rows sideways.Right g = g.columns

-- how many cells are passed before the next row, or the next column, begins (RULES, 13.6)
abbrev pub run_in : FillOrder → Turned → Grid → ℕ
run_in Rows t g = read_columns t g
run_in Columns t g = read_rows t g

-- the row and the column of page k as one reads the sheet
abbrev pub read_row : FillOrder → Turned → Grid → ℕ → ℕ
read_row Rows t g k = k / read_columns t g
read_row Columns t g k = k % read_rows t g

abbrev pub nth_column : FillOrder → Turned → Grid → ℕ → ℕ
nth_column Rows t g k = k % read_columns t g
nth_column Columns t g k = k / read_rows t g

abbrev pub read_column : FillOrder → (right_to_left : Bool) → Turned → Grid → ℕ → ℕ
read_column run right_to_left t g k =
    if right_to_left then read_columns t g - (nth_column run t g k + 1) else nth_column run t g k

-- the row of a cell, with the sheet held so that its pages are upright: a sheet that is read when it is turned to the
-- left has its first row in its last column, and its first column in its first row
abbrev pub held_row : Turned → Grid → (row column : ℕ) → ℕ
held_row sideways.Upright g row column = row
held_row sideways.Left g row column = column
held_row sideways.Right g row column = g.rows - (column + 1)

abbrev pub held_column : Turned → Grid → (row column : ℕ) → ℕ
held_column sideways.Upright g row column = column
held_column sideways.Left g row column = g.columns - (row + 1)
held_column sideways.Right g row column = row

abbrev pub row_of : Order → Grid → ℕ → ℕ
row_of o g k = held_row o.turned g (read_row o.run o.turned g k) (read_column o.run o.right_to_left o.turned g k)

abbrev pub column_of : Order → Grid → ℕ → ℕ
column_of o g k = held_column o.turned g (read_row o.run o.turned g k) (read_column o.run o.right_to_left o.turned g k)

-- page k in its cell
abbrev pub item_in_cell : (page : Paper) → Room → Grid → Order → (scale : ℕ) → ℕ → Item
item_in_cell page room g o s k = cell_item page room g s k (row_of o g k) (column_of o g k)

-- ---- sheets that are turned by half

-- a side in whole 10^-5 of a point
abbrev pub whole_parts : ℕ → ℕ
whole_parts side = side / 1_270_000

abbrev pub half_turned : Turn → Turn
half_turned Upright = Half
half_turned Left = Right
half_turned Half = Upright
half_turned Right = Left

-- page n + k of a block, where page k stands if the whole sheet is turned by half (RULES, 14.1)
abbrev pub back_in : (page : Paper) → Room → Grid → Order → (scale n k : ℕ) → Item
back_in page room g o s n k = item_at (n + k) (half_turned (turn_in g)) s
    (pos (whole_parts (nat_abs room.paper.width)) -ℤ to_right page room g s (row_of o g k) (column_of o g k))
    (pos (whole_parts (nat_abs room.paper.height)) -ℤ to_top page room g s (row_of o g k) (column_of o g k))
