-- Cells that lie behind one another.
use Rattle.std.proofs.Common.{arith, ◌≡◌, ℕ, ◌+◌, ◌-◌, ◌*◌, ◌/◌, ◌<◌, ◌≤◌, Bool, true, false, ap, subst}
use Rattle.std.specs.Prelude.{nat_abs, not, if◌then◌else◌}
use Rattle.std.proofs.Math.Nat.{lt-div-mul-add, div-mul-le_self}
use Rattle.layouts.specs.declared.arrangement.Turned.{Turned}
use Rattle.layouts.specs.declared.arrangement.Turned.TheVariants as sideways
use Rattle.layouts.specs.Placed.{IsEven, Room}
use Rattle.layouts.specs.Cells.{Along, Grid, along_height, along_width, cell, held_column, held_row, high, kept_length, left_free, read_column, read_columns, read_row, pitch, step_across, step_down, whole_parts, wide}
use Rattle.layouts.specs.Laws.{Cell, cell_at}
use Rattle.row_sheets.specs.Filled.{behind_in}
use Rattle.row_sheets.specs.Stacked.{AreMirrored, CellsLieBehind, LieBehind, is_upright}
use Rattle.row_sheets.proofs.Behind.{behind_is_mirror}

-- part i of n parts of a side, and part j, which is as far from the other end
opposite_at : (e f g s n i j side : ℕ) → i + j + 1 ≡ n → e ≡ f → 0 < s - g → s * (1_270_000 * n) ≤ side - 1_270_000 * (e + f) + 1_270_000 * g → side - 1_270_000 * (e + f) + 1_270_000 * g < s * (1_270_000 * n) + 1_270_000 * n
    → (e + i * s + (e + j * s + (s - g)) ≤ side / 1_270_000) × (side / 1_270_000 ≤ e + i * s + (e + j * s + (s - g)) + n)
opposite_at e f g s n i j side all even some least most =
    let parts : n * s ≡ i * s + j * s + s = subst (λ m. m * s ≡ i * s + j * s + s) all (omega arith) in
    (omega (arith, parts, even, some, least), omega (arith, parts, even, some, most, all))

abbrev Opposite : Along → (side n i j : ℕ) → Type 0
Opposite a side n i j =
    AreMirrored (whole_parts side) n (kept_length a.trim a.before + i * pitch a side n) (kept_length a.trim a.before + j * pitch a side n + cell a side n)

opposite : (a : Along) (side n i j : ℕ) → a.before ≡ a.after → i + j + 1 ≡ n → 0 < cell a side n → Opposite a side n i j
opposite a side n i j even all some =
    let free = left_free a side + 1_270_000 * kept_length a.trim a.gap in
    opposite_at (kept_length a.trim a.before) (kept_length a.trim a.after) (kept_length a.trim a.gap) (pitch a side n) n i j side all (ap (kept_length a.trim) even) some
    (div-mul-le_self free (1_270_000 * n)) (lt-div-mul-add {a = free} {b = 1_270_000 * n} (omega (arith, all)))

-- rows are counted from above
from_above : (n i j : ℕ) → j + i + 1 ≡ n → (n - (i + 1)) + (n - (j + 1)) + 1 ≡ n
from_above n i j all = omega (arith, all)

as_far : (n i j : ℕ) → j + i + 1 ≡ n → i + j + 1 ≡ n
as_far n i j all = omega (arith, all)

twice_from_above : (n i j : ℕ) → j + i + 1 ≡ n → (n - (n - (i + 1) + 1)) + (n - (n - (j + 1) + 1)) + 1 ≡ n
twice_from_above n i j all = omega (arith, all)

-- ---- as one reads the sheet

abbrev grid : (rows columns : ℕ) → Bool → Grid
grid rows columns turned = record { rows = rows; columns = columns; turned = turned }

abbrev cell_read : Room → Turned → Grid → (row column : ℕ) → Cell
cell_read room t g row column = cell_at room g (held_row t g row column) (held_column t g row column)

-- a cell, and one in its row that is as far from the other end of this
abbrev Behind : Room → Turned → Grid → (row row' column column' : ℕ) → Type 0
Behind room t g row row' column column' =
    LieBehind (if g.turned then not (is_upright t) else is_upright t) room.paper (read_columns t g) (cell_read room t g row column) (cell_read room t g row' column')

lies_behind : (room : Room) (t : Turned) (rows columns : ℕ) (b : Bool) (row row' column column' : ℕ) → IsEven room → 0 < wide room (grid rows columns b) → 0 < high room (grid rows columns b) → row' ≡ row
    → column' + column + 1 ≡ read_columns t (grid rows columns b) → Behind room t (grid rows columns b) row row' column column'
lies_behind room sideways.Upright rows columns false row row' column column' even some_wide some_high same all = (
  ap (λ r. kept_length room.trim room.bottom + (rows - (r + 1)) * step_down room (grid rows columns false)) same,
  opposite (along_width room) (nat_abs room.paper.width) columns column column' even.across (as_far columns column column' all) some_wide,
)
lies_behind room sideways.Upright rows columns true row row' column column' even some_wide some_high same all = (
  ap (λ r. kept_length room.trim room.left + r * step_down room (grid rows columns true)) same,
  opposite (along_height room) (nat_abs room.paper.height) columns column column' even.up (as_far columns column column' all) some_wide,
)
lies_behind room sideways.Left rows columns false row row' column column' even some_wide some_high same all = (
  ap (λ r. kept_length room.trim room.left + (columns - (r + 1)) * step_across room (grid rows columns false)) same,
  opposite (along_height room) (nat_abs room.paper.height) rows (rows - (column + 1)) (rows - (column' + 1)) even.up (from_above rows column column' all) some_high,
)
lies_behind room sideways.Left rows columns true row row' column column' even some_wide some_high same all = (
  ap (λ r. kept_length room.trim room.bottom + (columns - (r + 1)) * step_across room (grid rows columns true)) same,
  opposite (along_width room) (nat_abs room.paper.width) rows column column' even.across (as_far rows column column' all) some_high,
)
lies_behind room sideways.Right rows columns false row row' column column' even some_wide some_high same all = (
  ap (λ r. kept_length room.trim room.left + r * step_across room (grid rows columns false)) same,
  opposite (along_height room) (nat_abs room.paper.height) rows (rows - (rows - (column + 1) + 1)) (rows - (rows - (column' + 1) + 1)) even.up (twice_from_above rows column column' all) some_high,
)
lies_behind room sideways.Right rows columns true row row' column column' even some_wide some_high same all = (
  ap (λ r. kept_length room.trim room.bottom + r * step_across room (grid rows columns true)) same,
  opposite (along_width room) (nat_abs room.paper.width) rows (rows - (column + 1)) (rows - (column' + 1)) even.across (from_above rows column column' all) some_high,
)

pub cells_lie_behind : CellsLieBehind
cells_lie_behind t c even some_wide some_high within =
    let o = t.order in
    let g = t.grid in
    let m = behind_is_mirror o.run o.right_to_left o.turned g c within in
    lies_behind t.room o.turned g.rows g.columns g.turned (read_row o.run o.turned g c) (read_row o.run o.turned g (behind_in t c)) (read_column o.run o.right_to_left o.turned g c)
    (read_column o.run o.right_to_left o.turned g (behind_in t c)) even some_wide some_high m.1 m.2
