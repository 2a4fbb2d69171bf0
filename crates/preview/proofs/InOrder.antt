-- Each place is in the row and the column that the order gives it.
use Rattle.std.proofs.Common.{arith, ◌≡◌, ℕ, ◌+◌, ◌-◌, ◌*◌, ◌/◌, ◌%◌, ◌<◌, Bool, true, false, ap, ◌∙◌}
use Rattle.std.proofs.lemmas.Nat.{div-add-mod'}
use Rattle.layouts.specs.declared.arrangement.FillOrder.{FillOrder}
use Rattle.layouts.specs.declared.arrangement.FillOrder.TheVariants.{Rows, Columns}
use Rattle.layouts.specs.declared.arrangement.Turned.{Turned}
use Rattle.layouts.specs.declared.arrangement.Turned.TheVariants as sideways
use Rattle.layouts.specs.Cells.{Grid, size, read_columns, read_rows, read_row, read_column, held_row, held_column}
use Rattle.layouts.proofs.InOrder.{along_columns, along_rows, column_fits, read_size, row_fits}
use Rattle.preview.specs.Reading.{along, from_start, row_read, column_read, PlacesAreInOrder}

-- counted from the other side twice
again : (m c : ℕ) → m < c → c - (c - (m + 1) + 1) ≡ m
again m c less = omega (arith, less)

by_rows : (right_to_left : Bool) (r c k : ℕ) → k < r * c
    → k / c * c + from_start right_to_left c (from_start right_to_left c (k % c)) ≡ k
by_rows false r c k h = div-add-mod' k c
by_rows true r c k h = ap (λ m. k / c * c + m) (again (k % c) c (along_rows r c k h).1) ∙ div-add-mod' k c

by_columns : (right_to_left : Bool) (r c k : ℕ) → k < r * c
    → from_start right_to_left c (from_start right_to_left c (k / r)) * r + k % r ≡ k
by_columns false r c k h = div-add-mod' k r
by_columns true r c k h = ap (λ m. m * r + k % r) (again (k / r) c (along_columns r c k h).1) ∙ div-add-mod' k r

read_back : (run : FillOrder) (right_to_left : Bool) (t : Turned) (g : Grid) (k : ℕ) → k < read_rows t g * read_columns t g
    → along run (read_rows t g) (read_columns t g) (read_row run t g k) (from_start right_to_left (read_columns t g) (read_column run right_to_left t g k)) ≡ k
read_back Rows right_to_left t g k h = by_rows right_to_left (read_rows t g) (read_columns t g) k h
read_back Columns right_to_left t g k h = by_columns right_to_left (read_rows t g) (read_columns t g) k h

by_turn : (run : FillOrder) (right_to_left : Bool) (t : Turned) (g : Grid) (k : ℕ) → k < size g
    → (let row = held_row t g (read_row run t g k) (read_column run right_to_left t g k) in
    let column = held_column t g (read_row run t g k) (read_column run right_to_left t g k) in
    along run (read_rows t g) (read_columns t g) (row_read t g row column) (from_start right_to_left (read_columns t g) (column_read t g row column)) ≡ k)
by_turn run right_to_left sideways.Upright g k h = read_back run right_to_left sideways.Upright g k (read_size sideways.Upright g k h)
by_turn run right_to_left sideways.Left g k h =
    ap (λ m. along run g.columns g.rows m (from_start right_to_left g.rows (read_column run right_to_left sideways.Left g k)))
    (again (read_row run sideways.Left g k) g.columns (row_fits run sideways.Left g k h))
    ∙ read_back run right_to_left sideways.Left g k (read_size sideways.Left g k h)
by_turn run right_to_left sideways.Right g k h =
    ap (λ m. along run g.columns g.rows (read_row run sideways.Right g k) (from_start right_to_left g.rows m))
    (again (read_column run right_to_left sideways.Right g k) g.rows (column_fits run right_to_left sideways.Right g k h))
    ∙ read_back run right_to_left sideways.Right g k (read_size sideways.Right g k h)

pub places_are_in_order : PlacesAreInOrder
places_are_in_order o g k h = by_turn o.run o.right_to_left o.turned g k h
