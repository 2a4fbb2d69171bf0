-- The cell that is behind a cell.
use Rattle.std.proofs.Common.{arith, ◌≡◌, ℕ, suc, ◌+◌, ◌-◌, ◌*◌, ◌/◌, ◌%◌, ◌<◌, true, false, ap}
use Rattle.std.proofs.Math.Nat.{mul_comm, suc-mul, mul-le-mul_right}
use Rattle.std.proofs.lemmas.Nat.{div-mul-add, mod-mul-add, div-add-mod'}
use Rattle.layouts.specs.declared.arrangement.FillOrder.{FillOrder}
use Rattle.layouts.specs.declared.arrangement.FillOrder.TheVariants.{Rows, Columns}
use Rattle.layouts.specs.declared.arrangement.Turned.{Turned}
use Rattle.layouts.specs.declared.arrangement.Turned.TheVariants as sideways
use Rattle.layouts.specs.Cells.{Grid, size, read_columns, read_rows}
use Rattle.layouts.specs.declared.setting.Setting.{Setting}
use Rattle.layouts.proofs.InOrder.{along_columns, along_rows, read_size}
use Rattle.row_sheets.specs.Filled.{cell_behind, behind_in, BehindIsMirror}

-- in rows of c: its row and its place there
record InRows (r c k : ℕ) : Type 0 where
  pub within : k / c * c + (c - (k % c + 1)) < r * c
  pub row : (k / c * c + (c - (k % c + 1))) / c ≡ k / c
  pub place : (k / c * c + (c - (k % c + 1))) % c ≡ c - (k % c + 1)
  pub less : k % c < c

in_rows : (r c k : ℕ) → k < r * c → InRows r c k
in_rows r c k h =
    let at = along_rows r c k h in
    let row = at.0 in let less = at.1 in
    let small : c - (k % c + 1) < c = omega (arith, less) in
    record {
      within = omega (arith, small, mul-le-mul_right {m = suc (k / c)} {n = r} c (omega (arith, row)), suc-mul (k / c) c);
      row = div-mul-add (k / c) c (c - (k % c + 1)) small;
      place = mod-mul-add (k / c) c (c - (k % c + 1)) small;
      less = less;
    }

-- in columns of r
record InColumns (r c k : ℕ) : Type 0 where
  pub within : (c - (k / r + 1)) * r + k % r < r * c
  pub column : ((c - (k / r + 1)) * r + k % r) / r ≡ c - (k / r + 1)
  pub row : ((c - (k / r + 1)) * r + k % r) % r ≡ k % r
  pub less : k / r < c

in_columns : (r c k : ℕ) → k < r * c → InColumns r c k
in_columns r c k h =
    let at = along_columns r c k h in
    let less = at.0 in let column = at.1 in
    record {
      within = omega (arith, less, column, mul-le-mul_right {m = suc (c - (k / r + 1))} {n = c} r (omega (arith, column)), suc-mul (c - (k / r + 1)) r, mul_comm r c);
      column = div-mul-add (c - (k / r + 1)) r (k % r) less;
      row = mod-mul-add (c - (k / r + 1)) r (k % r) less;
      less = column;
    }

-- behind the cell behind a cell is the cell
twice : (run : FillOrder) (r c k : ℕ) → k < r * c → cell_behind run r c (cell_behind run r c k) ≡ k
twice Rows r c k h =
    let f = in_rows r c k h in
    let row = f.row in let place = f.place in let less = f.less in
    omega (arith, ap (λ m. m * c) row, place, less, div-add-mod' k c)
twice Columns r c k h =
    let f = in_columns r c k h in
    let column = f.column in let row = f.row in let less = f.less in
    omega (arith, ap (λ m. (c - (m + 1)) * r) column, ap (λ m. m * r) (again (k / r) c less), row, div-add-mod' k r)
  where
    again : (m c : ℕ) → m < c → c - (c - (m + 1) + 1) ≡ m
    again m c less = omega (arith, less)

all_cells : (t : Turned) (g : Grid) (k : ℕ) → k < read_rows t g * read_columns t g → k < size g
all_cells sideways.Upright g k h = h
all_cells sideways.Left g k h = omega (arith, h, mul_comm g.rows g.columns)
all_cells sideways.Right g k h = omega (arith, h, mul_comm g.rows g.columns)

pub behind_twice : (t : Setting) (c : ℕ) → c < size t.grid → behind_in t (behind_in t c) ≡ c
behind_twice t c within =
    twice t.order.run (read_rows t.order.turned t.grid) (read_columns t.order.turned t.grid) c (read_size t.order.turned t.grid c within)

pub behind_is_mirror : BehindIsMirror
behind_is_mirror Rows false t g c within =
    let f = in_rows (read_rows t g) (read_columns t g) c (read_size t g c within) in
    let place = f.place in let less = f.less in
    (all_cells t g _ f.within, f.row, omega (arith, place, less))
behind_is_mirror Rows true t g c within =
    let f = in_rows (read_rows t g) (read_columns t g) c (read_size t g c within) in
    let place = f.place in let less = f.less in
    (all_cells t g _ f.within, f.row, omega (arith, place, less))
behind_is_mirror Columns false t g c within =
    let f = in_columns (read_rows t g) (read_columns t g) c (read_size t g c within) in
    let column = f.column in let less = f.less in
    (all_cells t g _ f.within, f.row, omega (arith, column, less))
behind_is_mirror Columns true t g c within =
    let f = in_columns (read_rows t g) (read_columns t g) c (read_size t g c within) in
    let column = f.column in let less = f.less in
    (all_cells t g _ f.within, f.row, omega (arith, column, less))
