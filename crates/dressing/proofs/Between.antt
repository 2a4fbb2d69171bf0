-- Marks are on lines in the middle between cells, at both ends of each.
use Rattle.std.proofs.Common.{arith, rules, ◌≡◌, ℕ, zero, suc, ◌+◌, ◌-◌, ◌*◌, ◌<◌, ◌≤◌, Bool, true, false, refl, ap, sym, subst, ◌∙◌, [], ◌∷◌}
use Rattle.std.specs.Prelude.{ℤ, pos, ◌≤ℤ◌, ◌+ℤ◌, ◌-ℤ◌, nat_abs, nat_le, not, ◌&&◌, if◌then◌else◌, ◌==◌}
use Rattle.std.specs.List.{AllByRecursion, range_with_len}
use Rattle.std.proofs.lemmas.Int.{ints}
use Rattle.layouts.specs.Placed.{Room}
use Rattle.layouts.specs.Cells.{Along, Grid, along_height, along_width, cell, high, kept_length, pitch, wide, gap_at, grains_in, cells_across, cells_up}
use Rattle.layouts.proofs.InGrid.{both_true}
use Rattle.dressing.specs.Strokes.{far_end, has_half_gap, has_room_round, level_at, longest, marks_round, near_end, upright_at}
use Rattle.dressing.specs.Between.{AreMarksOf, IsLevel, IsUpright, MarksAreBetween, MarksLevel, MarksUpright, half_gap, line_numbers}
use Rattle.dressing.proofs.Outside.{half, not_zero}

abbrev cells : (rows columns : ℕ) → Bool → Grid
cells rows columns turned = record { rows = rows; columns = columns; turned = turned }

-- ---- the line before part k of a side

-- where part k begins
abbrev start : Along → (side parts k : ℕ) → ℕ
start a side parts k = kept_length a.trim a.before + k * pitch a side parts

record IsLine (a : Along) (side parts k : ℕ) : Type 0 where
  pub after : 0 < k → gap_at a side parts k ≡ grains_in (start a side parts (k - 1) + cell a side parts) + half_gap a
  pub before : (pos (gap_at a side parts k) +ℤ pos (half_gap a)) ≡ pos (grains_in (start a side parts k))

-- half a gap after the part before it, if that is as wide as the gap at least
after_part : (e g s k : ℕ) → 0 < s - g → 0 < k → 1_270_000 * (e + k * s) - 635_000 * g ≡ 1_270_000 * (e + (k - 1) * s + (s - g)) + 635_000 * g
after_part e g s zero wide some = absurd (omega (arith, some))
after_part e g s (suc k) wide some =
    let next : suc k * s ≡ k * s + s = omega arith in
    let last : (suc k - 1) * s ≡ k * s = ap (λ n. n * s) (one_less k) in
    omega (arith, wide, next, last)
  where
    one_less : (k : ℕ) → suc k - 1 ≡ k
    one_less k = omega arith

before_part : (a b : ℕ) → b ≤ a → (pos (a - b) +ℤ pos b) ≡ pos a
before_part a b le = omega (arith, ints, le)

-- there is half a gap before a part: the part before has the gap, or the margin
gap_in_part : (e g s k : ℕ) → 0 < s - g → 0 < k → 635_000 * g ≤ 1_270_000 * (e + k * s)
gap_in_part e g s zero wide some = absurd (omega (arith, some))
gap_in_part e g s (suc k) wide some = let next : suc k * s ≡ k * s + s = omega arith in omega (arith, wide, next)

no_more : (a b : ℕ) → nat_le a b ≡ true → a ≤ b
no_more a b e = search (rules, e)

gap_in_margin : (e g s k : ℕ) → 635_000 * g ≤ 1_270_000 * e → 635_000 * g ≤ 1_270_000 * (e + k * s)
gap_in_margin e g s k le = omega (arith, le)

line_is : (a : Along) (side parts k : ℕ) → 0 < cell a side parts → 635_000 * kept_length a.trim a.gap ≤ grains_in (start a side parts k) → IsLine a side parts k
line_is a side parts k wide has = record {
  after = λ some. after_part (kept_length a.trim a.before) (kept_length a.trim a.gap) (pitch a side parts) k wide some;
  before = before_part (grains_in (start a side parts k)) (635_000 * kept_length a.trim a.gap) has;
}

inner_line : (a : Along) (side parts k : ℕ) → 0 < cell a side parts → 0 < k → IsLine a side parts k
inner_line a side parts k wide some = line_is a side parts k wide (gap_in_part (kept_length a.trim a.before) (kept_length a.trim a.gap) (pitch a side parts) k wide some)

outer_line : (a : Along) (side parts k : ℕ) → 0 < cell a side parts → has_half_gap a.before a.gap ≡ true → IsLine a side parts k
outer_line a side parts k wide has =
    let fits = no_more a.gap (2 * a.before) (both_true (not (a.before == 0)) (nat_le a.gap (2 * a.before)) has).1 in
    line_is a side parts k wide (gap_in_margin (kept_length a.trim a.before) (kept_length a.trim a.gap) (pitch a side parts) k (half (a.trim == 0) a.gap a.before fits))

-- the first margin across, and the first one up
round_room : (room : Room) → has_room_round room ≡ true → (has_half_gap room.left room.gutter_across ≡ true) × (has_half_gap room.bottom room.gutter_up ≡ true)
round_room room h =
    let all = both_true (has_half_gap room.left room.gutter_across && has_half_gap room.right room.gutter_across) (has_half_gap room.bottom room.gutter_up && has_half_gap room.top room.gutter_up) h in
    ((both_true (has_half_gap room.left room.gutter_across) (has_half_gap room.right room.gutter_across) all.0).0, (both_true (has_half_gap room.bottom room.gutter_up) (has_half_gap room.top room.gutter_up) all.1).0)

-- ---- among the cells of a grid

upright_is : (room : Room) (rows columns : ℕ) (b : Bool) (k : ℕ) → IsLine (along_width room) (nat_abs room.paper.width) (cells_across (cells rows columns b)) k
    → IsUpright room (cells rows columns b) k (pos (gap_at (along_width room) (nat_abs room.paper.width) (cells_across (cells rows columns b)) k))
upright_is room rows columns false k is = record { right = λ up some. ap pos (is.after some); left = λ up less. is.before }
upright_is room rows columns true k is = record { right = λ up some. ap pos (is.after some); left = λ up less. is.before }

-- rows are counted from above
from_above : (rows j : ℕ) → j < rows → j ≡ rows - (rows - (j + 1) + 1)
from_above rows j less = omega (arith, less)

level_is : (room : Room) (rows columns : ℕ) (b : Bool) (k : ℕ) → k ≤ cells_up (cells rows columns b) → IsLine (along_height room) (nat_abs room.paper.height) (cells_up (cells rows columns b)) k
    → IsLevel room (cells rows columns b) k (pos (gap_at (along_height room) (nat_abs room.paper.height) (cells_up (cells rows columns b)) k))
level_is room rows columns false k within is =
    let h = nat_abs room.paper.height in
    let a = along_height room in
    record {
      above = λ across some. ap pos (is.after some
          ∙ ap (λ j. grains_in (start a h rows j + cell a h rows) + half_gap a) (from_above rows (k - 1) (omega (arith, some, within))));
      below = λ across less. is.before ∙ ap (λ j. pos (grains_in (start a h rows j))) (from_above rows k less);
    }
level_is room rows columns true k within is = record { above = λ across some. ap pos (is.after some); below = λ across less. is.before }

-- ---- strokes along a line

-- where it begins, if it ends at a margin
record IsLong (from to : ℕ) : Type 0 where
  pub some : from + 1 ≤ to
  pub most : to ≤ from + 2_286_000_000_000

long_at : (far : ℕ) → 0 < far → IsLong (far - 2_286_000_000_000) far
long_at far some = record { some = omega (arith, some); most = omega arith }

some_far : (edge : ℕ) → 0 < grains_in (if edge == 0 then longest else edge)
some_far zero = omega arith
some_far (suc n) = subst (λ (b : Bool). 0 < grains_in (if b then longest else suc n)) (sym (not_zero n)) (omega arith)

is_long : (edge : ℕ) → IsLong (near_end edge) (far_end edge)
is_long edge = long_at (far_end edge) (some_far edge)

abbrev Reaches : (end : ℕ) → (from to : ℤ) → Type 0
Reaches end from to = (pos 0 ≤ℤ from) × ((from +ℤ pos 1) ≤ℤ to) × (to ≤ℤ (from +ℤ pos 2_286_000_000_000)) × (to ≡ pos end)

near_edge : (n f : ℕ) → IsLong n f → Reaches f (pos n) (pos f)
near_edge n f is = let some = is.some in let most = is.most in (omega (arith, ints), omega (arith, ints, some), omega (arith, ints, most), refl)

far_edge : (h : ℤ) (n f : ℕ) → IsLong n f → Reaches f (h -ℤ (h -ℤ pos n)) (h -ℤ (h -ℤ pos f))
far_edge h n f is = let some = is.some in let most = is.most in (omega (arith, ints), omega (arith, ints, some), omega (arith, ints, most), omega (arith, ints))

upright_marks : (room : Room) (g : Grid) (k : ℕ) → IsUpright room g k (pos (gap_at (along_width room) (nat_abs room.paper.width) (cells_across g) k)) → MarksUpright room g k (upright_at room (cells_across g) k)
upright_marks room g k is =
    let x = pos (gap_at (along_width room) (nat_abs room.paper.width) (cells_across g) k) in
    let h = room.paper.height in
    record {
      lower = record { start = (x, pos (near_end room.bottom)); end = (x, pos (far_end room.bottom)) };
      upper = record { start = (x, h -ℤ pos (near_end room.top)); end = (x, h -ℤ pos (far_end room.top)) };
      two = refl;
      along = ((is, is), ((is, is), tt));
      at_lower = near_edge (near_end room.bottom) (far_end room.bottom) (is_long room.bottom);
      at_upper = far_edge h (near_end room.top) (far_end room.top) (is_long room.top);
    }

level_marks : (room : Room) (g : Grid) (k : ℕ) → IsLevel room g k (pos (gap_at (along_height room) (nat_abs room.paper.height) (cells_up g) k)) → MarksLevel room g k (level_at room (cells_up g) k)
level_marks room g k is =
    let y = pos (gap_at (along_height room) (nat_abs room.paper.height) (cells_up g) k) in
    let w = room.paper.width in
    record {
      left = record { start = (pos (near_end room.left), y); end = (pos (far_end room.left), y) };
      right = record { start = (w -ℤ pos (near_end room.right), y); end = (w -ℤ pos (far_end room.right), y) };
      two = refl;
      along = ((is, is), ((is, is), tt));
      at_left = near_edge (near_end room.left) (far_end room.left) (is_long room.left);
      at_right = far_edge w (near_end room.right) (far_end room.right) (is_long room.right);
    }

-- ---- all lines

each_line : (P : ℕ → Type 0) (first n most : ℕ) → first + n ≤ most + 1 → ((k : ℕ) → first ≤ k → k ≤ most → P k) → AllByRecursion P (range_with_len first n)
each_line P first zero most few h = tt
each_line P first (suc n) most few h =
    (h first (omega arith) (omega (arith, few)), each_line P (first + 1) n most (omega (arith, few)) (λ k from to. h k (omega (arith, from)) to))

-- the strokes along each line are its marks, if there is the line
record Marked (room : Room) (g : Grid) : Type 0 where
  pub inner_upright : (k : ℕ) → 0 < k → MarksUpright room g k (upright_at room (cells_across g) k)
  pub inner_level : (k : ℕ) → 0 < k → k ≤ cells_up g → MarksLevel room g k (level_at room (cells_up g) k)
  pub outer_upright : (k : ℕ) → has_room_round room ≡ true → MarksUpright room g k (upright_at room (cells_across g) k)
  pub outer_level : (k : ℕ) → has_room_round room ≡ true → k ≤ cells_up g → MarksLevel room g k (level_at room (cells_up g) k)

lines_marked : (room : Room) (rows columns : ℕ) (b : Bool) → 0 < cell (along_width room) (nat_abs room.paper.width) (cells_across (cells rows columns b)) → 0 < cell (along_height room) (nat_abs room.paper.height) (cells_up (cells rows columns b))
    → Marked room (cells rows columns b)
lines_marked room rows columns b some_wide some_high =
    let g = cells rows columns b in
    let w = nat_abs room.paper.width in
    let h = nat_abs room.paper.height in
    record {
      inner_upright = λ k some. upright_marks room g k (upright_is room rows columns b k (inner_line (along_width room) w (cells_across g) k some_wide some));
      inner_level = λ k some within. level_marks room g k (level_is room rows columns b k within (inner_line (along_height room) h (cells_up g) k some_high some));
      outer_upright = λ k has. upright_marks room g k (upright_is room rows columns b k (outer_line (along_width room) w (cells_across g) k some_wide (round_room room has).0));
      outer_level = λ k has within. level_marks room g k (level_is room rows columns b k within (outer_line (along_height room) h (cells_up g) k some_high (round_room room has).1));
    }

all_marked : (room : Room) (rows columns : ℕ) (b : Bool) → 0 < wide room (cells rows columns b) → 0 < high room (cells rows columns b) → Marked room (cells rows columns b)
all_marked room rows columns false some_wide some_high = lines_marked room rows columns false some_wide some_high
all_marked room rows columns true some_wide some_high = lines_marked room rows columns true some_high some_wide

-- the lines between some cells
between_some : (P : ℕ → Type 0) (parts : ℕ) → ((k : ℕ) → 0 < k → k ≤ parts → P k) → AllByRecursion P (line_numbers parts)
between_some P zero h = tt
between_some P (suc n) h = each_line P 1 (suc n - 1) (suc n) (omega arith) (λ k from to. h k (omega (arith, from)) to)

round_if : (room : Room) (g : Grid) (b : Bool) → (b ≡ true → has_room_round room ≡ true) → Marked room g
    → AreMarksOf room g (if b then 0 ∷ cells_across g ∷ [] else []) (if b then 0 ∷ cells_up g ∷ [] else []) (if b then marks_round room g else [])
round_if room g false has m = record {
  of_upright = upright_at room (cells_across g);
  of_level = level_at room (cells_up g);
  all = refl;
  mark_upright = tt;
  mark_level = tt;
}
round_if room g true has m = record {
  of_upright = upright_at room (cells_across g);
  of_level = level_at room (cells_up g);
  all = refl;
  mark_upright = (m.outer_upright 0 (has refl), (m.outer_upright (cells_across g) (has refl), tt));
  mark_level = (m.outer_level 0 (has refl) (omega arith), (m.outer_level (cells_up g) (has refl) (omega arith), tt));
}

pub marks_are_between : MarksAreBetween
marks_are_between room g some_wide some_high =
    let m = all_marked room g.rows g.columns g.turned some_wide some_high in
    record {
      folds = record {
        of_upright = upright_at room (cells_across g);
        of_level = level_at room (cells_up g);
        all = refl;
        mark_upright = between_some (λ k. MarksUpright room g k (upright_at room (cells_across g) k)) (cells_across g) (λ k some within. m.inner_upright k some);
        mark_level = between_some (λ k. MarksLevel room g k (level_at room (cells_up g) k)) (cells_up g) m.inner_level;
      };
      outer_cuts = round_if room g (has_room_round room) (λ e. e) m;
      cuts = refl;
    }
