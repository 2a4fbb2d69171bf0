-- Lines for notes lie in their cells, and go over no others.
use Rattle.std.proofs.Common.{arith, ◌≡◌, ℕ, zero, suc, ◌+◌, ◌-◌, ◌*◌, ◌/◌, ◌<◌, ◌≤◌, inl, inr, Bool, true, false, refl}
use Rattle.std.specs.Prelude.{map}
use Rattle.std.specs.List.{AllByRecursion, range_with_len}
use Rattle.std.proofs.Math.Nat.{mul-le-mul_right}
use Rattle.layouts.specs.Placed.{Room}
use Rattle.layouts.specs.Cells.{Grid, high, kept_length, step_across}
use Rattle.layouts.specs.Laws.{Cell, cell_at}
use Rattle.dressing.specs.Ruled.{line_below, line_count, note_cell, note_line, row_lines}
use Rattle.dressing.specs.Laws.{StrokeIsInCell, IsOutsideCell, LinesAreBeside, LinesAreInCell}
use Rattle.dressing.proofs.Outside.{at_most, each}

abbrev cells : (rows columns : ℕ) → Bool → Grid
cells rows columns turned = record { rows = rows; columns = columns; turned = turned }

abbrev cell_of : (left bottom width height : ℕ) → Cell
cell_of left bottom width height = record { left = left; bottom = bottom; width = width; height = height }

each_of : {X : Type 0} (P : X → Type 0) (f : ℕ → X) (first n most : ℕ) → first + n ≤ most + 1 → ((k : ℕ) → k ≤ most → P (f k))
    → AllByRecursion P (map f (range_with_len first n))
each_of P f first zero most few h = tt
each_of P f first (suc n) most few h = (h first (omega (arith, few)), each_of P f (first + 1) n most (omega (arith, few)) h)

-- ---- in their cells

reaches : (most height k : ℕ) → most ≡ (height - 1) / 2_400_000 → k ≤ most → k * 2_400_000 ≤ height
reaches most height k is le = omega (arith, is, le)

level_in : (left bottom width height depth : ℕ) → depth ≤ height → StrokeIsInCell (cell_of left bottom width height) (line_below false (cell_of left bottom width height) depth)
level_in left bottom width height depth within = record {
  left = (at_most (omega arith), at_most (omega arith));
  right = (at_most (omega arith), at_most (omega arith));
  bottom = (at_most (omega (arith, within)), at_most (omega (arith, within)));
  top = (at_most (omega arith), at_most (omega arith));
}

upright_in : (left bottom width height depth : ℕ) → depth ≤ width → StrokeIsInCell (cell_of left bottom width height) (line_below true (cell_of left bottom width height) depth)
upright_in left bottom width height depth within = record {
  left = (at_most (omega arith), at_most (omega arith));
  right = (at_most (omega (arith, within)), at_most (omega (arith, within)));
  bottom = (at_most (omega arith), at_most (omega arith));
  top = (at_most (omega arith), at_most (omega arith));
}

line_in : (room : Room) (rows columns : ℕ) (b : Bool) (row k : ℕ) → k ≤ line_count room (cells rows columns b)
    → StrokeIsInCell (note_cell room (cells rows columns b) row) (note_line room (cells rows columns b) row k)
line_in room rows columns false row k le =
    let g = cells rows columns false in
    let c = note_cell room g row in
    level_in c.left c.bottom c.width c.height (k * 2_400_000) (reaches (line_count room g) (high room g) k refl le)
line_in room rows columns true row k le =
    let g = cells rows columns true in
    let c = note_cell room g row in
    upright_in c.left c.bottom c.width c.height (k * 2_400_000) (reaches (line_count room g) (high room g) k refl le)

pub lines_are_in_cell : LinesAreInCell
lines_are_in_cell room g row =
    each_of (StrokeIsInCell (note_cell room g row)) (note_line room g row) 1 (line_count room g) (line_count room g) (omega arith)
    (line_in room g.rows g.columns g.turned row)

-- ---- beside the others

before : (e s gap c n : ℕ) → c + 1 < n → e + c * s + (s - gap) ≤ e + (n - 1) * s
before e s gap c n less =
    let place : suc c ≤ n - 1 = omega (arith, less) in
    let more = mul-le-mul_right s place in
    let next : suc c * s ≡ c * s + s = omega arith in
    omega (arith, more, next)

level_beside : (left bottom width height depth l b w h : ℕ) → l + w ≤ left
    → IsOutsideCell (cell_of l b w h) (line_below false (cell_of left bottom width height) depth)
level_beside left bottom width height depth l b w h le =
    inl (inr (at_most (omega (arith, le)), at_most (omega (arith, le))))

upright_beside : (left bottom width height depth l b w h : ℕ) → b + h ≤ bottom
    → IsOutsideCell (cell_of l b w h) (line_below true (cell_of left bottom width height) depth)
upright_beside left bottom width height depth l b w h le =
    inr (inr (at_most (omega (arith, le)), at_most (omega (arith, le))))

line_beside : (room : Room) (rows columns : ℕ) (t : Bool) (row column : ℕ) → column + 1 < columns → (other k : ℕ)
    → IsOutsideCell (cell_at room (cells rows columns t) row column) (note_line room (cells rows columns t) other k)
line_beside room rows columns false row column less other k =
    let g = cells rows columns false in
    let c = note_cell room g other in
    let d = cell_at room g row column in
    level_beside c.left c.bottom c.width c.height (k * 2_400_000) d.left d.bottom d.width d.height
    (before (kept_length room.trim room.left) (step_across room g) (kept_length room.trim room.gutter_across) column columns less)
line_beside room rows columns true row column less other k =
    let g = cells rows columns true in
    let c = note_cell room g other in
    let d = cell_at room g row column in
    upright_beside c.left c.bottom c.width c.height (k * 2_400_000) d.left d.bottom d.width d.height
    (before (kept_length room.trim room.bottom) (step_across room g) (kept_length room.trim room.gutter_up) column columns less)

pub lines_are_beside : LinesAreBeside
lines_are_beside room g row column less =
    each (IsOutsideCell (cell_at room g row column)) (row_lines room g)
    (λ other.
    each_of (IsOutsideCell (cell_at room g row column)) (note_line room g other) 1 (line_count room g) (line_count room g) (omega arith)
    (λ k le. line_beside room g.rows g.columns g.turned row column less other k))
    0 g.rows
