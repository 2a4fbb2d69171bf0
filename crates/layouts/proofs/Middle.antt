-- A page stands in the middle of its cell.
use Rattle.std.proofs.Common.{arith, ◌≡◌, ℕ, ◌+◌, ◌-◌, ◌*◌, ◌/◌, ◌<◌, ◌≤◌, Bool, true, false, sym, subst, ap}
use Rattle.std.specs.Prelude.{pos, ◌+ℤ◌, ◌-ℤ◌, nat_abs}
use Rattle.std.proofs.Math.Nat.{lt-div-mul-add, mul_left_comm, mul-add}
use Rattle.std.proofs.lemmas.Int.{ints}
use Rattle.rules.specs.Papers.{Paper}
use Rattle.layouts.specs.Placed.{Room}
use Rattle.layouts.specs.Cells.{Along, Grid, along_height, along_width, cell, kept_length, pitch, cell_item, row_of, column_of}
use Rattle.layouts.specs.Laws.{HasPlace, IsMean, IsInMiddle, GridIsInMiddle, cell_at}
use Rattle.layouts.proofs.AlongSide.{in_cell, in_middle, moved_back, counted_and}
use Rattle.layouts.proofs.Sides.{of_sides, far, start}
use Rattle.layouts.proofs.OnSide.{HasCell, shown, trimmed, from_start, from_end}
use Rattle.layouts.proofs.InGrid.{across_of, cells, down_of, sides_are}

-- the whole side, of which something is trimmed at both ends
both_ends : (s v t : ℕ) → 2 * t < v → s * v ≡ s * (v - 2 * t) + 2 * (s * t)
both_ends s v t some = omega (arith, counted_and s v t some, mul-add s (v - t) t, ap (λ n. s * n) (back v t some))
  where
    back : (v t : ℕ) → 2 * t < v → v - t + t ≡ v
    back v t some = omega (arith, some)

moved_most : (l s : ℕ) → start l s ≤ 1_270_000_000_000_000 * (s * l / 1_000_000_000) + 1_270_000_000_000_000
moved_most l s = omega (arith, lt-div-mul-add {a = s * l} {b = 1_000_000_000} (omega arith), mul_left_comm s 1_270_000 l)

whole_side : (a : Along) (w c v s : ℕ) → HasCell a w c v s → s * v ≡ s * shown a v + 2 * start a.trim s
whole_side a w c v s h =
    subst (λ n. s * v ≡ s * (v - n) + 2 * start a.trim s) (twice a.trim) (both_ends s v (1_270_000 * a.trim) (let some = h.left in omega (arith, some)))
  where
    twice : (l : ℕ) → 2 * (1_270_000 * l) ≡ 2_540_000 * l
    twice l = omega arith

from_start_middle : (a : Along) (w c v s j : ℕ) → HasCell a w c v s
    → IsMean (2 * (kept_length a.trim a.before + j * pitch a w c) + cell a w c) (far (pos (from_start a w c v s j) -ℤ pos (trimmed a s))) (far (pos (from_start a w c v s j) -ℤ pos (trimmed a s)) +ℤ pos (s * v))
from_start_middle a w c v s j h =
    let most = in_cell (cell a w c) (shown a v) s h.fits in
    let least = in_middle (cell a w c) (shown a v) s h.fits in
    let all = whole_side a w c v s h in
    let back = moved_back a.trim s in
    let back' = moved_most a.trim s in
    (omega (arith, ints, most, least, all, back, back'), omega (arith, ints, most, least, all, back, back'))

from_end_middle : (a : Along) (w c v s j : ℕ) → HasCell a w c v s
    → IsMean (2 * (kept_length a.trim a.before + j * pitch a w c) + cell a w c) (far (pos (from_end a w c v s j) +ℤ pos (trimmed a s))) (far (pos (from_end a w c v s j) +ℤ pos (trimmed a s)) -ℤ pos (s * v))
from_end_middle a w c v s j h =
    let most = in_cell (cell a w c) (shown a v) s h.fits in
    let least = in_middle (cell a w c) (shown a v) s h.fits in
    let all = whole_side a w c v s h in
    let back = moved_back a.trim s in
    let back' = moved_most a.trim s in
    (omega (arith, ints, most, least, all, back, back'), omega (arith, ints, most, least, all, back, back'))

middle_at : (v u : ℕ) (room : Room) (r c : ℕ) (b : Bool) (s k row column : ℕ) → HasPlace (of_sides v u) room (cells r c b) s
    → IsInMiddle (of_sides v u) (cell_at room (cells r c b) row column) (cell_item (of_sides v u) room (cells r c b) s k row column)
middle_at v u room r c false s k row column place =
    let w = nat_abs room.paper.width in
    let h = nat_abs room.paper.height in
    let a = from_start_middle (along_width room) w c v s column (across_of v u room r c false s place) in
    let d = from_start_middle (along_height room) h r u s (r - (row + 1)) (down_of v u room r c false s place) in
    record {
      across = (omega (arith, ints, a.0), omega (arith, ints, a.1));
      up = (omega (arith, ints, d.0), omega (arith, ints, d.1));
    }
middle_at v u room r c true s k row column place =
    let w = nat_abs room.paper.width in
    let h = nat_abs room.paper.height in
    let a = from_start_middle (along_height room) h c v s column (across_of v u room r c true s place) in
    let d = from_end_middle (along_width room) w r u s row (down_of v u room r c true s place) in
    record {
      across = (omega (arith, ints, d.0), omega (arith, ints, d.1));
      up = (omega (arith, ints, a.0), omega (arith, ints, a.1));
    }

abbrev MiddleIf : (room : Room) (g : Grid) (s k row column : ℕ) → Paper → Type 0
MiddleIf room g s k row column o = HasPlace o room g s → IsInMiddle o (cell_at room g row column) (cell_item o room g s k row column)

pub grid_in_middle : GridIsInMiddle
grid_in_middle page room g o s k is place =
    subst (MiddleIf room g s k (row_of o g k) (column_of o g k)) (sym (sides_are page is))
    (λ here. middle_at (nat_abs page.width) (nat_abs page.height) room g.rows g.columns g.turned s k (row_of o g k) (column_of o g k) here)
    place
