-- A page stands in its cell.
use Rattle.std.proofs.Common.{arith, ℕ, ◌+◌, ◌-◌, ◌*◌, ◌≤◌, Bool, true, false, sym, subst}
use Rattle.std.specs.Prelude.{ℤ, pos, ◌≤ℤ◌, ◌+ℤ◌, ◌-ℤ◌, nat_abs, if◌then◌else◌, ◌==◌}
use Rattle.std.proofs.lemmas.Int.{ints}
use Rattle.rules.specs.Papers.{Paper}
use Rattle.rules.specs.Placement.{Point}
use Rattle.layouts.specs.Placed.{Room, fine, stands}
use Rattle.layouts.specs.Cells.{Along, Grid, along_height, along_width, cell, kept_length, pitch, to_right, to_top, cell_item, row_of, column_of}
use Rattle.layouts.specs.Laws.{Cell, HasPlace, LiesInCell, IsInCell, GridIsInCell, cell_at}
use Rattle.layouts.proofs.AlongSide.{in_cell, moved_back}
use Rattle.layouts.proofs.Sides.{of_sides, far, start, end, InBox, upright_box, left_box}
use Rattle.layouts.proofs.OnSide.{HasCell, shown, trimmed, from_start, from_end, ends}
use Rattle.layouts.proofs.InGrid.{across_of, cells, down_of, sides_are}

-- ---- along a side

-- a page that is counted from the start of cell j begins in it, and ends in it, to what the rounding leaves
starts_in : (a : Along) (w c v s j : ℕ) → HasCell a w c v s
    → fine (kept_length a.trim a.before + j * pitch a w c) ≤ℤ (far (pos (from_start a w c v s j) -ℤ pos (trimmed a s)) +ℤ pos (start a.trim s))
starts_in a w c v s j h =
    let back = moved_back a.trim s in
    omega (arith, ints, back)

ends_in : (a : Along) (w c v s j : ℕ) → HasCell a w c v s
    → (far (pos (from_start a w c v s j) -ℤ pos (trimmed a s)) +ℤ pos (end a.trim v s)) ≤ℤ fine (kept_length a.trim a.before + j * pitch a w c + cell a w c + kept_length a.trim 0)
ends_in a w c v s j h =
    let is = (ends a v s 0 h.left).end in
    let more = (ends a v s 0 h.left).kept in
    let most = in_cell (cell a w c) (shown a v) s h.fits in
    omega (arith, ints, is, more, most)

-- and one that is counted from the other end of the cell
starts_in_turned : (a : Along) (w c v s j : ℕ) → HasCell a w c v s
    → ((fine (kept_length a.trim a.before + j * pitch a w c) -ℤ fine (kept_length a.trim 0)) +ℤ pos (end a.trim v s)) ≤ℤ far (pos (from_end a w c v s j) +ℤ pos (trimmed a s))
starts_in_turned a w c v s j h =
    let is = (ends a v s 0 h.left).end in
    let more = (ends a v s 0 h.left).kept in
    let most = in_cell (cell a w c) (shown a v) s h.fits in
    omega (arith, ints, is, more, most)

ends_in_turned : (a : Along) (w c v s j : ℕ) → HasCell a w c v s
    → far (pos (from_end a w c v s j) +ℤ pos (trimmed a s)) ≤ℤ (fine (kept_length a.trim a.before + j * pitch a w c + cell a w c) +ℤ pos (start a.trim s))
ends_in_turned a w c v s j h =
    let back = moved_back a.trim s in
    omega (arith, ints, back)

-- ---- in a cell

in_box : (c : Cell) (past : ℕ) (p : Point) → InBox (fine c.left -ℤ fine past) (fine (c.left + c.width + past)) (fine c.bottom -ℤ fine past) (fine (c.bottom + c.height + past)) p → LiesInCell c past p
in_box c past p b =
    let left = b.left_is in let bottom = b.bottom_is in
    record {
      left = omega (arith, ints, left);
      right = b.right_is;
      bottom = omega (arith, ints, bottom);
      top = b.top_is;
    }

less_past : (a z : ℤ) (past : ℕ) → a ≤ℤ z → (a -ℤ fine past) ≤ℤ z
less_past a z past h = omega (arith, ints, h)

more_past : (z y : ℤ) (n past : ℕ) → z ≤ℤ (fine n +ℤ y) → z ≤ℤ (fine (n + past) +ℤ y)
more_past z y n past h = omega (arith, ints, h)

in_cell_at : (v u : ℕ) (room : Room) (r c : ℕ) (b : Bool) (s k row column : ℕ) → HasPlace (of_sides v u) room (cells r c b) s
    → IsInCell room (of_sides v u) (cell_at room (cells r c b) row column) (kept_length room.trim 0) (cell_item (of_sides v u) room (cells r c b) s k row column)
in_cell_at v u room r c false s k row column place p of =
    let w = nat_abs room.paper.width in
    let h = nat_abs room.paper.height in
    let past = kept_length room.trim 0 in
    let g = cells r c false in
    let at = cell_at room g row column in
    let across : HasCell (along_width room) w c v s = across_of v u room r c false s place in
    let down : HasCell (along_height room) h r u s = down_of v u room r c false s place in
    in_box at past (stands (of_sides v u) (cell_item (of_sides v u) room g s k row column) p)
    (upright_box v u room.trim k s (to_right (of_sides v u) room g s row column) (to_top (of_sides v u) room g s row column)
    (fine at.left -ℤ fine past) (fine (at.left + at.width + past)) (fine at.bottom -ℤ fine past) (fine (at.bottom + at.height + past))
    (less_past (fine at.left) _ past (starts_in (along_width room) w c v s column across)) (ends_in (along_width room) w c v s column across)
    (less_past (fine at.bottom) _ past (starts_in (along_height room) h r u s (r - (row + 1)) down)) (ends_in (along_height room) h r u s (r - (row + 1)) down)
    p.x p.y of)
in_cell_at v u room r c true s k row column place p of =
    let w = nat_abs room.paper.width in
    let h = nat_abs room.paper.height in
    let past = kept_length room.trim 0 in
    let g = cells r c true in
    let at = cell_at room g row column in
    let across : HasCell (along_height room) h c v s = across_of v u room r c true s place in
    let down : HasCell (along_width room) w r u s = down_of v u room r c true s place in
    in_box at past (stands (of_sides v u) (cell_item (of_sides v u) room g s k row column) p)
    (left_box v u room.trim k s (to_right (of_sides v u) room g s row column) (to_top (of_sides v u) room g s row column)
    (fine at.left -ℤ fine past) (fine (at.left + at.width + past)) (fine at.bottom -ℤ fine past) (fine (at.bottom + at.height + past))
    (starts_in_turned (along_width room) w r u s row down) (more_past _ (pos (start room.trim s)) (at.left + at.width) past (ends_in_turned (along_width room) w r u s row down))
    (less_past (fine at.bottom) _ past (starts_in (along_height room) h c v s column across)) (ends_in (along_height room) h c v s column across)
    p.x p.y of)

abbrev InCellIf : (room : Room) (g : Grid) (s k row column : ℕ) → Paper → Type 0
InCellIf room g s k row column o = HasPlace o room g s → IsInCell room o (cell_at room g row column) (kept_length room.trim 0) (cell_item o room g s k row column)

pub grid_in_cell : GridIsInCell
grid_in_cell page room g o s k is place =
    subst (InCellIf room g s k (row_of o g k) (column_of o g k)) (sym (sides_are page is))
    (λ here. in_cell_at (nat_abs page.width) (nat_abs page.height) room g.rows g.columns g.turned s k (row_of o g k) (column_of o g k) here)
    place

-- ---- farther past

pub farther : (cell : Cell) (n m : ℕ) (p : Point) → n ≤ m → LiesInCell cell n p → LiesInCell cell m p
farther cell n m p more lies =
    let left = lies.left in let right = lies.right in let bottom = lies.bottom in let top = lies.top in
    record {
      left = omega (arith, ints, more, left);
      right = omega (arith, ints, more, right);
      bottom = omega (arith, ints, more, bottom);
      top = omega (arith, ints, more, top);
    }

kept_one : (b : Bool) → (if b then 0 else 0 + 1) ≤ 1
kept_one true = omega arith
kept_one false = omega arith

pub past_is : (room : Room) (b : Bool) → kept_length room.trim 0 ≤ (if b then 1 else kept_length room.trim 0)
past_is room true = kept_one (room.trim == 0)
past_is room false = omega arith
