-- The order of pages as one reads the sheet.
use Rattle.std.proofs.Common.{arith, ℕ, ◌+◌, ◌-◌, ◌*◌, ◌/◌, ◌%◌, ◌<◌, Bool, true, false}
use Rattle.std.specs.Prelude.{ℤ, neg_ℤ, nat_abs, ◌≤ℤ◌, ◌+ℤ◌, if◌then◌else◌}
use Rattle.std.proofs.Math.Nat.{mod-lt, div-lt_iff_lt-mul, mul_comm}
use Rattle.std.proofs.lemmas.Int.{ints}
use Rattle.rules.specs.Papers.{Paper}
use Rattle.rules.specs.Specification.{Item}
use Rattle.layouts.specs.declared.arrangement.FillOrder.{FillOrder}
use Rattle.layouts.specs.declared.arrangement.FillOrder.TheVariants.{Rows, Columns}
use Rattle.layouts.specs.declared.arrangement.Turned.{Turned}
use Rattle.layouts.specs.declared.arrangement.Turned.TheVariants as sideways
use Rattle.layouts.specs.Placed.{Room, fine, IsLeftOf, IsAbove}
use Rattle.layouts.specs.Cells.{Grid, size, cell_item, read_columns, read_rows, run_in, read_row, nth_column, read_column, held_row, held_column, row_of, column_of}
use Rattle.layouts.specs.Laws.{IsPaper, HasPlace, IsBeside, ComesInRun, ComesInRunBefore, GridIsInside, GridIsInOrder}
use Rattle.layouts.proofs.Sides.{abs_neg}
use Rattle.layouts.proofs.InGrid.{in_whole, on_sheet, is_left, is_above, some_each}

-- ---- rows and columns of page k

pub along_rows : (r c k : ℕ) → k < r * c → (k / c < r) × (k % c < c)
along_rows r c k h = let some = (some_each r c (omega (arith, h))).1 in ((div-lt_iff_lt-mul some).1 h, mod-lt k some)

pub along_columns : (r c k : ℕ) → k < r * c → (k % r < r) × (k / r < c)
along_columns r c k h = let some = (some_each r c (omega (arith, h))).0 in (mod-lt k some, (div-lt_iff_lt-mul some).1 (omega (arith, h, mul_comm r c)))

pub read_size : (t : Turned) (g : Grid) (k : ℕ) → k < size g → k < read_rows t g * read_columns t g
read_size sideways.Upright g k h = h
read_size sideways.Left g k h = omega (arith, h, mul_comm g.rows g.columns)
read_size sideways.Right g k h = omega (arith, h, mul_comm g.rows g.columns)

pub row_fits : (run : FillOrder) (t : Turned) (g : Grid) (k : ℕ) → k < size g → read_row run t g k < read_rows t g
row_fits Rows t g k h = (along_rows (read_rows t g) (read_columns t g) k (read_size t g k h)).0
row_fits Columns t g k h = (along_columns (read_rows t g) (read_columns t g) k (read_size t g k h)).0

nth_fits : (run : FillOrder) (t : Turned) (g : Grid) (k : ℕ) → k < size g → nth_column run t g k < read_columns t g
nth_fits Rows t g k h = (along_rows (read_rows t g) (read_columns t g) k (read_size t g k h)).1
nth_fits Columns t g k h = (along_columns (read_rows t g) (read_columns t g) k (read_size t g k h)).1

pub column_fits : (run : FillOrder) (b : Bool) (t : Turned) (g : Grid) (k : ℕ) → k < size g → read_column run b t g k < read_columns t g
column_fits run false t g k h = nth_fits run t g k h
column_fits run true t g k h = let less = nth_fits run t g k h in omega (arith, less)

pub held_fits : (t : Turned) (g : Grid) (row column : ℕ) → row < read_rows t g → column < read_columns t g → (held_row t g row column < g.rows) × (held_column t g row column < g.columns)
held_fits sideways.Upright g row column in_rows in_columns = (in_rows, in_columns)
held_fits sideways.Left g row column in_rows in_columns = (in_columns, omega (arith, in_rows))
held_fits sideways.Right g row column in_rows in_columns = (omega (arith, in_columns), in_rows)

pub place_fits : (run : FillOrder) (b : Bool) (t : Turned) (g : Grid) (k : ℕ) → k < size g
    → (held_row t g (read_row run t g k) (read_column run b t g k) < g.rows) × (held_column t g (read_row run t g k) (read_column run b t g k) < g.columns)
place_fits run b t g k h = held_fits t g (read_row run t g k) (read_column run b t g k) (row_fits run t g k h) (column_fits run b t g k h)

pub grid_inside : GridIsInside
grid_inside page room g o s k is on place within p of =
    let fit = place_fits o.run o.right_to_left o.turned g k within in
    on_sheet room _ on (in_whole page room g s k (row_of o g k) (column_of o g k) is place fit.0 fit.1 p of)

-- ---- as one reads the sheet

abbrev read_item : (t : Turned) → (page : Paper) → Room → Grid → (s k row column : ℕ) → Item
read_item t page room g s k row column = cell_item page room g s k (held_row t g row column) (held_column t g row column)

other_way_round : (a b c : ℤ) → (b +ℤ fine (nat_abs c)) ≤ℤ a → (neg_ℤ a +ℤ fine (nat_abs (neg_ℤ c))) ≤ℤ neg_ℤ b
other_way_round a b c h = rw (abs_neg c) (omega (arith, ints, h))

read_left : (t : Turned) (page page' : Paper) (room : Room) (g : Grid) (s s' k k' row column row' column' : ℕ) → IsPaper page → IsPaper page' → HasPlace page room g s → HasPlace page' room g s'
    → column < column' → column' < read_columns t g
    → IsLeftOf room t page (read_item t page room g s k row column) page' (read_item t page' room g s' k' row' column')
read_left sideways.Upright page page' room g s s' k k' row column row' column' is is' place place' before last =
    is_left page page' room g s s' k k' row column row' column' is is' place place' before
read_left sideways.Left page page' room g s s' k k' row column row' column' is is' place place' before last =
    let above = is_above page page' room g s s' k k' column (g.columns - (row + 1)) column' (g.columns - (row' + 1)) is is' place place' before last in
    λ p q of of'. other_way_round _ _ _ (above q p of' of)
read_left sideways.Right page page' room g s s' k k' row column row' column' is is' place place' before last =
    is_above page' page room g s' s k' k (g.rows - (column' + 1)) row' (g.rows - (column + 1)) row is' is place' place (omega (arith, before, last)) (omega (arith, before, last))

read_above : (t : Turned) (page page' : Paper) (room : Room) (g : Grid) (s s' k k' row column row' column' : ℕ) → IsPaper page → IsPaper page' → HasPlace page room g s → HasPlace page' room g s'
    → row < row' → row' < read_rows t g
    → IsAbove room t page (read_item t page room g s k row column) page' (read_item t page' room g s' k' row' column')
read_above sideways.Upright page page' room g s s' k k' row column row' column' is is' place place' before last =
    is_above page page' room g s s' k k' row column row' column' is is' place place' before last
read_above sideways.Left page page' room g s s' k k' row column row' column' is is' place place' before last =
    is_left page' page room g s' s k' k column' (g.columns - (row' + 1)) column (g.columns - (row + 1)) is' is place' place (omega (arith, before, last))
read_above sideways.Right page page' room g s s' k k' row column row' column' is is' place place' before last =
    let left = is_left page page' room g s s' k k' (g.rows - (column + 1)) row (g.rows - (column' + 1)) row' is is' place place' before in
    λ p q of of'. other_way_round _ _ _ (left q p of' of)

-- ---- the order

abbrev nth_item : (run : FillOrder) (b : Bool) (t : Turned) → (page : Paper) → Room → Grid → (s k : ℕ) → Item
nth_item run b t page room g s k = read_item t page room g s k (read_row run t g k) (read_column run b t g k)

beside : (b : Bool) (t : Turned) (page page' : Paper) (room : Room) (g : Grid) (s s' k k' row row' n n' : ℕ) → IsPaper page → IsPaper page' → HasPlace page room g s → HasPlace page' room g s'
    → n < n' → n' < read_columns t g
    → IsBeside room t b page (read_item t page room g s k row (if b then read_columns t g - (n + 1) else n)) page' (read_item t page' room g s' k' row' (if b then read_columns t g - (n' + 1) else n'))
beside false t page page' room g s s' k k' row row' n n' is is' place place' before last =
    read_left t page page' room g s s' k k' row n row' n' is is' place place' before last
beside true t page page' room g s s' k k' row row' n n' is is' place place' before last =
    read_left t page' page room g s' s k' k row' (read_columns t g - (n' + 1)) row (read_columns t g - (n + 1)) is' is place' place (omega (arith, before, last)) (omega (arith, before, last))

along : (run : FillOrder) (b : Bool) (t : Turned) (page page' : Paper) (room : Room) (g : Grid) (s s' k l : ℕ) → IsPaper page → IsPaper page' → HasPlace page room g s → HasPlace page' room g s'
    → k < size g → l < size g → k % run_in run t g < l % run_in run t g
    → ComesInRun run room t b page (nth_item run b t page room g s k) page' (nth_item run b t page' room g s' l)
along Rows b t page page' room g s s' k l is is' place place' in_k in_l before =
    beside b t page page' room g s s' k l (read_row Rows t g k) (read_row Rows t g l) (k % read_columns t g) (l % read_columns t g) is is' place place' before (nth_fits Rows t g l in_l)
along Columns b t page page' room g s s' k l is is' place place' in_k in_l before =
    read_above t page page' room g s s' k l (k % read_rows t g) (read_column Columns b t g k) (l % read_rows t g) (read_column Columns b t g l) is is' place place' before (row_fits Columns t g l in_l)

in_runs : (run : FillOrder) (b : Bool) (t : Turned) (page page' : Paper) (room : Room) (g : Grid) (s s' k l : ℕ) → IsPaper page → IsPaper page' → HasPlace page room g s → HasPlace page' room g s'
    → k < size g → l < size g → k / run_in run t g < l / run_in run t g
    → ComesInRunBefore run room t b page (nth_item run b t page room g s k) page' (nth_item run b t page' room g s' l)
in_runs Rows b t page page' room g s s' k l is is' place place' in_k in_l before =
    read_above t page page' room g s s' k l (k / read_columns t g) (read_column Rows b t g k) (l / read_columns t g) (read_column Rows b t g l) is is' place place' before (row_fits Rows t g l in_l)
in_runs Columns b t page page' room g s s' k l is is' place place' in_k in_l before =
    beside b t page page' room g s s' k l (read_row Columns t g k) (read_row Columns t g l) (k / read_rows t g) (l / read_rows t g) is is' place place' before (nth_fits Columns t g l in_l)

pub grid_in_order : GridIsInOrder
grid_in_order page page' room g o s s' k l is is' on place place' in_k in_l = (
  along o.run o.right_to_left o.turned page page' room g s s' k l is is' place place' in_k in_l,
  in_runs o.run o.right_to_left o.turned page page' room g s s' k l is is' place place' in_k in_l,
)
