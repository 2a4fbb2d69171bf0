-- One side of a sheet with w grains, cut into c cells, and a page in cell j, of whose side with v grains something may be
-- trimmed. Its scale is s. On a side that counts from its start a page is moved by `from_start`, less what is trimmed;
-- a turned page stands on a side that counts from its cell's other end, `from_end`, and is moved on by what is trimmed.
use Rattle.std.proofs.Common.{arith, ◌≡◌, ℕ, ◌+◌, ◌-◌, ◌*◌, ◌/◌, ◌<◌, ◌≤◌, subst}
use Rattle.std.specs.Prelude.{pos, ◌≤ℤ◌, ◌+ℤ◌, ◌-ℤ◌}
use Rattle.std.proofs.lemmas.Int.{ints}
use Rattle.layouts.specs.Placed.{fine}
use Rattle.layouts.specs.Cells.{Along, cell, kept_length, pitch, slack, whole_parts}
use Rattle.layouts.proofs.AlongSide.{moved_back, kept_at, counted_and, in_side, in_side_back, behind_edge, parted, parted_back}
use Rattle.layouts.proofs.Sides.{far, start, end}

abbrev pub shown : (a : Along) (v : ℕ) → ℕ
shown a v = v - 2_540_000 * a.trim

-- how long what is trimmed is on the sheet
abbrev pub trimmed : (a : Along) (s : ℕ) → ℕ
trimmed a s = s * a.trim / 1_000_000_000

abbrev pub from_start : (a : Along) (w c v s j : ℕ) → ℕ
from_start a w c v s j = kept_length a.trim a.before + j * pitch a w c + slack (cell a w c) (shown a v) s

abbrev pub from_end : (a : Along) (w c v s j : ℕ) → ℕ
from_end a w c v s j = kept_length a.trim a.before + j * pitch a w c + (cell a w c - slack (cell a w c) (shown a v) s)

-- the page has a cell, and something is left of it
pub record HasCell (a : Along) (w c v s : ℕ) : Type 0 where
  pub some : 0 < cell a w c
  pub fits : s * shown a v ≤ 1_270_000_000_000_000 * cell a w c
  pub left : 2_540_000 * a.trim < v

pub record Ends (a : Along) (v s n : ℕ) : Type 0 where
  pub back : 1_270_000_000_000_000 * trimmed a s ≤ start a.trim s
  pub kept : start a.trim s + 1_270_000_000_000_000 * n ≤ 1_270_000_000_000_000 * trimmed a s + 1_270_000_000_000_000 * kept_length a.trim n
  pub end : end a.trim v s ≡ s * shown a v + start a.trim s

end_at : (l v s : ℕ) → 2_540_000 * l < v → end l v s ≡ s * (v - 2_540_000 * l) + start l s
end_at l v s some = subst (λ n. end l v s ≡ s * (v - n) + start l s) (twice l) (counted_and s v (1_270_000 * l) (omega (arith, some)))
  where
    twice : (l : ℕ) → 2 * (1_270_000 * l) ≡ 2_540_000 * l
    twice l = omega arith

pub ends : (a : Along) (v s n : ℕ) → 2_540_000 * a.trim < v → Ends a v s n
ends a v s n some = record {
  back = moved_back a.trim s;
  kept = kept_at a.trim s n;
  end = end_at a.trim v s some;
}

-- what is counted from the start

pub begins : (a : Along) (w c v s j : ℕ) → HasCell a w c v s
    → fine a.before ≤ℤ (far (pos (from_start a w c v s j) -ℤ pos (trimmed a s)) +ℤ pos (start a.trim s))
begins a w c v s j h =
    let f = ends a v s a.before h.left in
    let back = f.back in let more = f.kept in
    omega (arith, ints, back, more)

pub finishes : (a : Along) (w c v s j : ℕ) → HasCell a w c v s → j < c
    → ((far (pos (from_start a w c v s j) -ℤ pos (trimmed a s)) +ℤ pos (end a.trim v s)) +ℤ fine a.after) ≤ℤ fine (whole_parts w)
finishes a w c v s j h before =
    let f = ends a v s a.after h.left in
    let more = f.kept in let is = f.end in
    omega (arith, ints, more, is, in_side a w c (shown a v) s j h.some h.fits before)

pub comes_before : (a : Along) (w c v s v' s' j k : ℕ) → HasCell a w c v s → HasCell a w c v' s' → j < k
    → ((far (pos (from_start a w c v s j) -ℤ pos (trimmed a s)) +ℤ pos (end a.trim v s)) +ℤ fine a.gap)
    ≤ℤ (far (pos (from_start a w c v' s' k) -ℤ pos (trimmed a s')) +ℤ pos (start a.trim s'))
comes_before a w c v s v' s' j k h h' before =
    let f = ends a v s a.gap h.left in
    let f' = ends a v' s' a.gap h'.left in
    let more = f.kept in let is = f.end in let back = f'.back in
    omega (arith, ints, more, is, back, parted (pitch a w c) (kept_length a.trim a.gap) (kept_length a.trim a.before) (shown a v) s (shown a v') s' j k h.some h.fits before)

-- what is counted from the other end of a cell

pub begins_turned : (a : Along) (w c v s j : ℕ) → HasCell a w c v s
    → (fine a.before +ℤ pos (end a.trim v s)) ≤ℤ far (pos (from_end a w c v s j) +ℤ pos (trimmed a s))
begins_turned a w c v s j h =
    let f = ends a v s a.before h.left in
    let more = f.kept in let is = f.end in
    omega (arith, ints, more, is, behind_edge (pitch a w c) (kept_length a.trim a.gap) (kept_length a.trim a.before) (shown a v) s j h.fits)

pub finishes_turned : (a : Along) (w c v s j : ℕ) → HasCell a w c v s → j < c
    → (far (pos (from_end a w c v s j) +ℤ pos (trimmed a s)) +ℤ fine a.after) ≤ℤ (fine (whole_parts w) +ℤ pos (start a.trim s))
finishes_turned a w c v s j h before =
    let f = ends a v s a.after h.left in
    let back = f.back in let more = f.kept in
    omega (arith, ints, back, more, in_side_back a w c (shown a v) s j h.some h.fits before)

pub comes_before_turned : (a : Along) (w c v s v' s' j k : ℕ) → HasCell a w c v s → HasCell a w c v' s' → j < k
    → ((far (pos (from_end a w c v s j) +ℤ pos (trimmed a s)) +ℤ pos (end a.trim v' s')) +ℤ fine a.gap)
    ≤ℤ (far (pos (from_end a w c v' s' k) +ℤ pos (trimmed a s')) +ℤ pos (start a.trim s))
comes_before_turned a w c v s v' s' j k h h' before =
    let f = ends a v s a.gap h.left in
    let f' = ends a v' s' a.gap h'.left in
    let back = f.back in let more = f'.kept in let is = f'.end in
    omega (arith, ints, back, more, is, parted_back (pitch a w c) (kept_length a.trim a.gap) (kept_length a.trim a.before) (shown a v) s (shown a v') s' j k h'.some h'.fits before)
