-- Cells of a grid, and a page in its cell, along one side. The numbers are plain here: a side of a sheet is cut into c
-- cells, which begin p from one another, less a gap of D; E is kept free before them; s is a page's scale, and v what
-- counts of its side.
use Rattle.std.proofs.Common.{arith, rules, ◌≡◌, ℕ, false, suc, zero, ◌+◌, ◌-◌, ◌*◌, ◌/◌, ◌<◌, ◌≤◌, ap}
use Rattle.std.specs.Prelude.{◌==◌, if◌then◌else◌}
use Rattle.std.proofs.Math.Nat.{mul-div-le, div-mul-le_self, lt-div-mul-add, mul-le-mul_right, mul_assoc, mul_left_comm, suc-mul, zero-div, mul-add}
use Rattle.layouts.specs.Cells.{Along, part, fitting, slack, pitch, cell, left_free, kept_length, whole_parts}

-- the parts of a side are no longer than the side
pub parts_fit : (side parts : ℕ) → 1_270_000 * (parts * part side parts) ≤ side
parts_fit side parts = omega (arith, mul-div-le side (1_270_000 * parts), mul_assoc 1_270_000 parts (part side parts))

-- a side that is scaled to fit a cell is no longer than the cell
pub scaled_fits : (cell side s : ℕ) → s ≤ fitting cell side → s * side ≤ 1_270_000_000_000_000 * cell
scaled_fits cell side s h = omega (arith, mul-le-mul_right side h, div-mul-le_self (1_270_000_000_000_000 * cell) side)

-- a page that has a scale has a cell
pub some_cell : (cell side s : ℕ) → 0 < s → s ≤ fitting cell side → 0 < cell
some_cell zero side s some fits = absurd (omega (arith, some, fits, zero-div side))
some_cell (suc cell) side s some fits = omega arith

-- a page in the middle of its cell leaves the same at both ends
pub in_cell : (cell side s : ℕ) → s * side ≤ 1_270_000_000_000_000 * cell
    → 1_270_000_000_000_000 * slack cell side s + s * side + 1_270_000_000_000_000 * slack cell side s ≤ 1_270_000_000_000_000 * cell
in_cell cell side s fits = omega (arith, div-mul-le_self (1_270_000_000_000_000 * cell - s * side) 2_540_000_000_000_000)

-- to 10^-5 of a point
pub in_middle : (cell side s : ℕ) → s * side ≤ 1_270_000_000_000_000 * cell
    → 1_270_000_000_000_000 * cell ≤ 1_270_000_000_000_000 * slack cell side s + s * side + 1_270_000_000_000_000 * slack cell side s + 2_540_000_000_000_000
in_middle cell side s fits =
    omega (arith, lt-div-mul-add {a = 1_270_000_000_000_000 * cell - s * side} {b = 2_540_000_000_000_000} (omega arith))

-- a cell ends where the next one begins, or before
pub cell_ends : (j k cell : ℕ) → j < k → j * cell + cell ≤ k * cell
cell_ends j k cell h = omega (arith, mul-le-mul_right {m = suc j} {n = k} cell (omega (arith, h)), suc-mul j cell)

-- ---- what is trimmed

-- how far a page is moved back is rounded down, and what is kept makes up for it
pub moved_back : (l s : ℕ) → 1_270_000_000_000_000 * (s * l / 1_000_000_000) ≤ s * (1_270_000 * l)
moved_back l s = omega (arith, div-mul-le_self (s * l) 1_000_000_000, mul_left_comm s 1_270_000 l)

not_zero : (l : ℕ) → (suc l == 0) ≡ false
not_zero l = search rules

pub kept_at : (l s n : ℕ) → s * (1_270_000 * l) + 1_270_000_000_000_000 * n ≤ 1_270_000_000_000_000 * (s * l / 1_000_000_000) + 1_270_000_000_000_000 * (if l == 0 then n else n + 1)
kept_at zero s n = omega arith
kept_at (suc l) s n = rw (not_zero l) (omega (arith, lt-div-mul-add {a = s * suc l} {b = 1_000_000_000} (omega arith), mul_left_comm s 1_270_000 (suc l)))

-- what counts of a side, and what is trimmed at one end
pub counted_and : (s v t : ℕ) → 2 * t < v → s * (v - t) ≡ s * (v - 2 * t) + s * t
counted_and s v t some = omega (arith, mul-add s (v - 2 * t) t, ap (λ n. s * n) (parts v t some))
  where
    parts : (v t : ℕ) → 2 * t < v → v - t ≡ v - 2 * t + t
    parts v t some = omega (arith, some)

-- ---- along a side

pub whole_at_least : (side n : ℕ) → 1_270_000 * n ≤ side → n ≤ whole_parts side
whole_at_least side n h = omega (arith, h, lt-div-mul-add {a = side} {b = 1_270_000} (omega arith))

-- the cells with their gaps, and what is kept free at both ends, are no longer than the side and one more gap
pub cells_fit : (a : Along) (w c j : ℕ) → 0 < cell a w c → j < c
    → c * pitch a w c + (kept_length a.trim a.before + kept_length a.trim a.after) ≤ whole_parts w + kept_length a.trim a.gap
cells_fit a w c j some before =
    let p = pitch a w c in
    let D = kept_length a.trim a.gap in
    let E = kept_length a.trim a.before + kept_length a.trim a.after in
    let fit = parts_fit (left_free a w + 1_270_000 * D) c in
    let one = cell_ends j c p before in
    omega (arith, some, whole_at_least w (c * p + E - D) (omega (arith, some, fit, one)))

-- a page in cell j ends within what is kept free
pub in_side : (a : Along) (w c v s j : ℕ) → 0 < cell a w c → s * v ≤ 1_270_000_000_000_000 * cell a w c → j < c
    → 1_270_000_000_000_000 * (kept_length a.trim a.before + j * pitch a w c + slack (cell a w c) v s) + s * v + 1_270_000_000_000_000 * kept_length a.trim a.after ≤ 1_270_000_000_000_000 * whole_parts w
in_side a w c v s j some fits before =
    omega (arith, some, in_cell (cell a w c) v s fits, cell_ends j c (pitch a w c) before, cells_fit a w c j some before)

-- and so does one that is counted from its cell's other end
pub in_side_back : (a : Along) (w c v s j : ℕ) → 0 < cell a w c → s * v ≤ 1_270_000_000_000_000 * cell a w c → j < c
    → 1_270_000_000_000_000 * (kept_length a.trim a.before + j * pitch a w c + (cell a w c - slack (cell a w c) v s)) + 1_270_000_000_000_000 * kept_length a.trim a.after ≤ 1_270_000_000_000_000 * whole_parts w
in_side_back a w c v s j some fits before =
    omega (arith, some, in_cell (cell a w c) v s fits, cell_ends j c (pitch a w c) before, cells_fit a w c j some before)

pub behind_edge : (p D E v s j : ℕ) → s * v ≤ 1_270_000_000_000_000 * (p - D)
    → 1_270_000_000_000_000 * E + s * v ≤ 1_270_000_000_000_000 * (E + j * p + (p - D - slack (p - D) v s))
behind_edge p D E v s j fits = omega (arith, in_cell (p - D) v s fits)

-- a gap parts cell j from each later one
pub parted : (p D E v s v' s' j k : ℕ) → 0 < p - D → s * v ≤ 1_270_000_000_000_000 * (p - D) → j < k
    → 1_270_000_000_000_000 * (E + j * p + slack (p - D) v s) + s * v + 1_270_000_000_000_000 * D ≤ 1_270_000_000_000_000 * (E + k * p + slack (p - D) v' s')
parted p D E v s v' s' j k some fits before = omega (arith, some, in_cell (p - D) v s fits, cell_ends j k p before)

pub parted_back : (p D E v s v' s' j k : ℕ) → 0 < p - D → s' * v' ≤ 1_270_000_000_000_000 * (p - D) → j < k
    → 1_270_000_000_000_000 * (E + j * p + (p - D - slack (p - D) v s)) + s' * v' + 1_270_000_000_000_000 * D ≤ 1_270_000_000_000_000 * (E + k * p + (p - D - slack (p - D) v' s'))
parted_back p D E v s v' s' j k some fits before = omega (arith, some, in_cell (p - D) v' s' fits, cell_ends j k p before)
