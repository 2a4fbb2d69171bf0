-- What is made: n pages on a sheet, booklets.
use Rattle.std.specs.Prelude.{ℕ, ◌+◌, ◌-◌, ◌*◌, ◌/◌, suc, zero, ℤ, pos, negsuc, nat_abs, Bool, true, false, ◌&&◌, ◌||◌, ◌==◌, nat_lt}
use Rattle.std.specs.Prelude.{if◌then◌else◌, Option, Some, None, is_none}
use Rattle.rules.specs.Papers.{Paper}
use Rattle.rules.specs.Specification.{Item, Upright}
use Rattle.layouts.specs.Placed.{Room}
use Rattle.layouts.specs.Cells.{Grid, size, exact_scale, item_at}
use Rattle.layouts.specs.declared.arrangement.Arrangement.{Arrangement}
use Rattle.layouts.specs.declared.arrangement.Binding.{Binding}
use Rattle.layouts.specs.declared.arrangement.Cells.{Cells}
use Rattle.layouts.specs.declared.arrangement.Free.{Free}
use Rattle.layouts.specs.declared.arrangement.Cells.TheVariants.{AtLeast, Exactly}
use Rattle.layouts.specs.declared.arrangement.FillOrder.TheVariants.{Rows}
use Rattle.layouts.specs.declared.arrangement.Turned.{Turned}
use Rattle.layouts.specs.declared.arrangement.Turned.TheVariants as sideways
use Rattle.layouts.specs.declared.arrangement.Order.{Order}

-- ---- the best grid

-- the grid of n cells or more with so many columns, and with no row too many (RULES, 13.5)
abbrev pub grid : Bool → (n columns : ℕ) → Grid
grid turned n columns = record { rows = (n + (columns - 1)) / columns; columns = columns; turned = turned }

-- the other has a larger scale, in exact parts of the sheet, or the same and fewer cells
abbrev pub is_better : (page : Paper) → Room → (one other : Grid) → Bool
is_better page room one other =
    nat_lt (exact_scale page room one) (exact_scale page room other)
    || (exact_scale page room one == exact_scale page room other) && nat_lt (size other) (size one)

-- the one, unless the other is better
abbrev pub better : (page : Paper) → Room → (one other : Grid) → Grid
better page room one other = if is_better page room one other then other else one

-- of the grids of n cells or more with so many columns at most, the best, and of the best the first
abbrev pub best_of : (page : Paper) → Room → Bool → (n most : ℕ) → Grid
best_of page room turned n zero = grid turned n 1
best_of page room turned n (suc k) = better page room (best_of page room turned n k) (grid turned n (suc k))

-- upright, unless turned is better
abbrev pub best_grid : (page : Paper) → Room → ℕ → Grid
best_grid page room n = better page room (best_of page room false n n) (best_of page room true n n)

-- a grid of these columns and rows, as one reads the sheet
abbrev pub formed : Turned → Bool → (columns rows : ℕ) → Grid
formed sideways.Upright turned columns rows = record { rows = rows; columns = columns; turned = turned }
formed sideways.Left turned columns rows = record { rows = columns; columns = rows; turned = turned }
formed sideways.Right turned columns rows = record { rows = columns; columns = rows; turned = turned }

abbrev pub best_formed : (page : Paper) → Room → Turned → (columns rows : ℕ) → Grid
best_formed page room t columns rows = better page room (formed t false columns rows) (formed t true columns rows)

-- ---- a page as it is

-- a page alone, as it is; it is counted from 0 (RULES, 13.4)
abbrev pub page_alone : ℕ → Item
page_alone k = item_at k Upright 1_000_000_000 (pos 0) (pos 0)

abbrev pub is_same : (page sheet : Paper) → Bool
is_same page sheet = (nat_abs page.width == nat_abs sheet.width) && (nat_abs page.height == nat_abs sheet.height)

-- ---- n pages on each sheet

-- a length in whole 10^-5 of a point, of which none that is asked for is lost; and of which none is added
-- (RULES, 13.1)
abbrev pub rounded_up : ℤ → ℕ
rounded_up length = (nat_abs length + 1_269_999) / 1_270_000

abbrev pub rounded_down : ℤ → ℕ
rounded_down length = nat_abs length / 1_270_000

-- the sheet: margins and gaps are no narrower than asked for, and no more is trimmed
abbrev pub room_of : (sheet : Paper) → Free → Room
room_of sheet f = record {
  paper = sheet;
  left = rounded_up f.left;
  right = rounded_up f.right;
  bottom = rounded_up f.bottom;
  top = rounded_up f.top;
  gutter_across = rounded_up f.across;
  gutter_up = rounded_up f.up;
  trim = rounded_down f.trim;
}

-- nothing is kept free along its edges, and of its pages nothing is trimmed
abbrev pub has_bare_edges : Room → Bool
has_bare_edges room = (room.left + room.right + (room.bottom + room.top) == 0) && (room.trim == 0)

-- how many pages a sheet has
abbrev pub cells_per_sheet : Cells → ℕ
cells_per_sheet (AtLeast n) = n
cells_per_sheet (Exactly columns rows) = columns * rows

abbrev pub grid_of : (page : Paper) → Room → Turned → Cells → Grid
grid_of page room t (AtLeast n) = best_grid page room n
grid_of page room t (Exactly columns rows) = best_formed page room t columns rows

abbrev pub above_zero : ℤ → ℕ
above_zero (pos n) = n
above_zero (negsuc n) = 0

-- the scale that is asked for, in 10^-9, or else the largest (RULES, 13.3)
abbrev pub scale_for : (asked : Option ℤ) → (largest : ℕ) → ℕ
scale_for None largest = largest
scale_for (Some s) largest = above_zero s

-- one page of the sheet's own paper, of which nothing else is asked (RULES, 13.4)
abbrev pub is_itself : (page sheet : Paper) → Arrangement → Bool
is_itself page sheet a =
    (cells_per_sheet a.cells == 1) && is_same page sheet && has_bare_edges (room_of sheet a.free) && is_none a.scale

-- along rows, from the left, and nothing lies on its side
abbrev pub plain_order : Order
plain_order = record { run = Rows; right_to_left = false; turned = sideways.Upright }

-- nothing is kept free, and nothing is trimmed
abbrev pub nothing_free : Free
nothing_free = record {
  left = pos 0;
  right = pos 0;
  bottom = pos 0;
  top = pos 0;
  across = pos 0;
  up = pos 0;
  trim = pos 0;
}

-- nothing is asked for but cells
abbrev pub plain : Cells → Arrangement
plain cells = record { cells = cells; free = nothing_free; order = plain_order; scale = None }

-- ---- booklets

-- two pages side by side (RULES, 14.1)
abbrev pub beside : Bool → Grid
beside turned = record { rows = 1; columns = 2; turned = turned }

-- from the left, or from the right if the booklet is bound there
abbrev pub leaf_order : (right_to_left : Bool) → Order
leaf_order right_to_left = record { run = Rows; right_to_left = right_to_left; turned = sideways.Upright }

-- nothing is asked for but how the printer flips a sheet
abbrev pub plain_binding : (long_edge : Bool) → Binding
plain_binding long_edge = record { free = nothing_free; right_to_left = false; long_edge = long_edge; scale = None }
