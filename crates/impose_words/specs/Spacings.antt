-- What is kept free on the sheets of a request, how far leaves creep and sheets overlap, in which order one reads sheets, and
-- at which scale the pages are.
use Rattle.std.specs.Prelude.{ℕ, ℤ, pos, negsuc, ◌+ℤ◌, Bool, true, false, ◌&&◌, if◌then◌else◌, is_some, Option, Some, None, unwrap_or}
use Rattle.std.specs.Ordering.{int_eq}
use Rattle.layouts.specs.Grids.{leaf_order, nothing_free, plain_order}
use Rattle.layouts.specs.Refusals.{is_length}
use Rattle.layouts.specs.declared.arrangement.Arrangement.{Arrangement}
use Rattle.layouts.specs.declared.arrangement.Binding.{Binding}
use Rattle.layouts.specs.declared.arrangement.Cells.{Cells}
use Rattle.layouts.specs.declared.arrangement.Cells.TheVariants.{Exactly}
use Rattle.layouts.specs.declared.arrangement.Free.{Free}
use Rattle.layouts.specs.declared.arrangement.Order.{Order}
use Rattle.layouts.specs.declared.arrangement.FillOrder.TheVariants.{Columns}
use Rattle.layouts.specs.declared.arrangement.Turned.TheVariants.{Upright}
use Rattle.impose_words.specs.declared.request.Layout.{Layout}
use Rattle.impose_words.specs.declared.request.Layout.TheVariants as layout
use Rattle.impose_words.specs.declared.request.Spacing.{Spacing}

-- the layout keeps room free if it is asked to
abbrev pub keeps_room : Layout → Bool
keeps_room layout.Selection = false
keeps_room (layout.Spec specs signing) = false
keeps_room other = true

-- nothing is asked for: nothing is kept free, one reads along rows from the left, and pages are as large as they can be
abbrev pub nothing_kept : Spacing
nothing_kept =
    record {
      free = nothing_free;
      inner = None;
      creep = pos 0;
      overlap = pos 0;
      order = plain_order;
      scale = None;
      same_scale = false;
      skipped = 0;
    }

-- the inner edge of a sheet is its left one, as sheets lie that are fronts (RULES, 13.1)
abbrev pub on_fronts : Spacing → Free
on_fronts s = record s.free { left = unwrap_or s.inner s.free.left }

-- the inner margin is the right one on backs: left and right margins are exchanged there. Booklets alone have another
-- inner edge
abbrev pub swaps_margins : Layout → Spacing → Bool
swaps_margins (layout.NUp cells) s = is_some s.inner
swaps_margins other s = false

-- the arrangement of these cells, with the margins and gaps of a request
abbrev pub arrangement_in : Spacing → Cells → Arrangement
arrangement_in s cells = record { cells = cells; free = on_fronts s; order = s.order; scale = s.scale }

-- from the top down, and then in the next column
abbrev pub down_right : Order
down_right = record { run = Columns; right_to_left = false; turned = Upright }

-- two columns of so many cells, of which as many pages fill the left one, and leave the right one for notes
-- (RULES, 14)
abbrev pub notes_in : Spacing → (pages : ℕ) → Arrangement
notes_in s pages = record (arrangement_in s (Exactly 2 pages)) { order = down_right }

-- a gap, or the least length in place of none: a zine's rows are rounded each in its own way. One below 0 stays, and is refused
abbrev pub some_gap : (gap : ℤ) → ℤ
some_gap gap = if int_eq gap (pos 0) then pos 1 else gap

-- two rows of four cells, that one reads from the left, or from the right (RULES, 14.4)
abbrev pub zine_in : Spacing → Arrangement
zine_in s = record (arrangement_in s (Exactly 4 2)) {
  free = record s.free { across = some_gap s.free.across; up = some_gap s.free.up; trim = pos 0 };
  order = leaf_order s.order.right_to_left;
  scale = None;
}

-- the inner edge of each half is at the fold, so the gap there has that margin on both sides; what is no length gives none
-- (RULES, 13.1)
abbrev pub fold_gap : (gap inner : ℤ) → ℤ
fold_gap gap inner = if is_length gap && is_length inner then gap +ℤ (inner +ℤ inner) else negsuc 0

abbrev pub at_fold : (inner : Option ℤ) → Free → Free
at_fold None f = f
at_fold (Some inner) f = record f { up = fold_gap f.up inner }

-- the halves of a sheet
abbrev pub binding_in : Spacing → (long_edge : Bool) → Binding
binding_in s long_edge =
    record { free = at_fold s.inner s.free; right_to_left = s.order.right_to_left; long_edge = long_edge; scale = s.scale }
