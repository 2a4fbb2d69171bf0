-- Which place is where on a sheet, as one holds it for its pages to be upright.
use Rattle.std.specs.Prelude.{◌≡◌, ℕ, ◌+◌, ◌-◌, ◌*◌, ◌<◌, Bool, if◌then◌else◌}
use Rattle.layouts.specs.Cells.{Grid, size, read_columns, read_rows, row_of, column_of}
use Rattle.layouts.specs.declared.arrangement.Order.{Order}
use Rattle.layouts.specs.declared.arrangement.FillOrder.{FillOrder}
use Rattle.layouts.specs.declared.arrangement.FillOrder.TheVariants.{Rows, Columns}
use Rattle.layouts.specs.declared.arrangement.Turned.{Turned}
use Rattle.layouts.specs.declared.arrangement.Turned.TheVariants as sideways

-- the row and the column of a cell as one reads the sheet: one that is read when it is turned to the left has its first row
-- in its last column, and its first column in its first row
abbrev pub row_read : Turned → Grid → (row column : ℕ) → ℕ
row_read sideways.Upright g row column = row
row_read sideways.Left g row column = g.columns - (column + 1)
row_read sideways.Right g row column = column

abbrev pub column_read : Turned → Grid → (row column : ℕ) → ℕ
column_read sideways.Upright g row column = column
column_read sideways.Left g row column = row
column_read sideways.Right g row column = g.rows - (row + 1)

-- which column it is from where pages begin
abbrev pub from_start : (right_to_left : Bool) → (columns column : ℕ) → ℕ
from_start right_to_left columns column = if right_to_left then columns - (column + 1) else column

-- places run along rows, or along columns
abbrev pub along : FillOrder → (rows columns row column : ℕ) → ℕ
along Rows rows columns row column = row * columns + column
along Columns rows columns row column = column * rows + row

-- which place is in this row and this column
abbrev pub place_number_at : Order → Grid → (row column : ℕ) → ℕ
place_number_at o g row column =
    along o.run (read_rows o.turned g) (read_columns o.turned g) (row_read o.turned g row column)
    (from_start o.right_to_left (read_columns o.turned g) (column_read o.turned g row column))

-- that is the place to which the order gives this row and this column: a law
abbrev pub PlacesAreInOrder : Type 0
PlacesAreInOrder = (o : Order) (g : Grid) (k : ℕ) → k < size g → place_number_at o g (row_of o g k) (column_of o g k) ≡ k
