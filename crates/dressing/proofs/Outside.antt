-- Marks go over no cell, and are in the margin.
use Rattle.std.proofs.Common.{arith, rules, ◌≡◌, ℕ, zero, suc, ◌+◌, ◌-◌, ◌*◌, ◌<◌, ◌≤◌, ◌⊎◌, inl, inr, Bool, true, false, refl, ap, List, [], ◌∷◌, ◌++◌}
use Rattle.std.specs.Prelude.{ℤ, pos, ◌≤ℤ◌, ◌-ℤ◌, nat_abs, nat_lt, ◌&&◌, if◌then◌else◌, flat_map, ◌==◌}
use Rattle.std.specs.List.{AllByRecursion, range_with_len}
use Rattle.std.proofs.Math.Nat.{mul-le-mul_right}
use Rattle.std.proofs.lemmas.Bool.{cases_lt}
use Rattle.std.proofs.lemmas.Int.{ints}
use Rattle.layouts.specs.Placed.{Room}
use Rattle.layouts.specs.Cells.{Along, Grid, along_height, along_width, cell, high, kept_length, pitch, wide, grains_in, cells_across, cells_up}
use Rattle.layouts.specs.Laws.{Cell, cell_at}
use Rattle.dressing.specs.Strokes.{far_end, has_room_round, level_at, level_between, level_strokes, longest, near_end, overlaps_above, overlaps_beside, tile_marks, upright_at, upright_between, upright_strokes}
use Rattle.dressing.specs.Laws.{IsInMargin, IsOutsideCell, MarksAreInMargin, MarksAreOutside, all_marks, PiecesAreLike}
use Rattle.dressing.specs.declared.strokes.Stroke.{Stroke}

-- ---- pieces

-- half of a gap, of which the margin has room
pub half : (b : Bool) (gap edge : ℕ) → gap ≤ 2 * edge → 635_000 * (if b then gap else gap + 1) ≤ 1_270_000 * (if b then edge else edge + 1)
half true gap edge le = omega (arith, le)
half false gap edge le = omega (arith, le)

one_more : (e s k g : ℕ) → 635_000 * g ≤ 1_270_000 * e → 1_270_000 * (e + (k + 1) * s) - 635_000 * g ≡ (1_270_000 * (e + k * s) - 635_000 * g) + 1_270_000 * s
one_more e s k g le = let next : (k + 1) * s ≡ k * s + s = omega arith in omega (arith, le, next)

pub pieces_are_like : PiecesAreLike
pieces_are_like a side parts k le =
    one_more (kept_length a.trim a.before) (pitch a side parts) k (kept_length a.trim a.gap) (half (a.trim == 0) a.gap a.before le)

-- ---- one line and one cell, along one side

-- the line before part k, and part c, if parts are wider than the gap
pub parted : (e g s c k : ℕ) → 0 < s - g
    → (1_270_000 * (e + k * s) - 635_000 * g ≤ 1_270_000 * (e + c * s)) ⊎ (1_270_000 * (e + c * s + (s - g)) ≤ 1_270_000 * (e + k * s) - 635_000 * g)
parted e g s c k some = elim (cases_lt c k) [
  | inl before ↦ let more = mul-le-mul_right s before in let next : suc c * s ≡ c * s + s = omega arith in inr (omega (arith, some, more, next))
  | inr behind ↦ let less = mul-le-mul_right s behind in inl (omega (arith, less))
]

pub at_most : {a b : ℕ} → a ≤ b → pos a ≤ℤ pos b
at_most le = omega (arith, ints, le)

-- ---- all marks

pub both : {X : Type 0} (P : X → Type 0) (one other : List X) → AllByRecursion P one → AllByRecursion P other → AllByRecursion P (one ++ other)
both P [] other a b = b
both P (x ∷ one) other a b = (a.0, both P one other a.1 b)

pub each : {X : Type 0} (P : X → Type 0) (f : ℕ → List X) → ((k : ℕ) → AllByRecursion P (f k)) → (first n : ℕ) → AllByRecursion P (flat_map f (range_with_len first n))
each P f h first zero = tt
each P f h first (suc n) = both P (f first) (flat_map f (range_with_len (first + 1) n)) (h first) (each P f h (first + 1) n)

if_so : {X : Type 0} (P : X → Type 0) (b : Bool) (xs : List X) → AllByRecursion P xs → AllByRecursion P (if b then xs else [])
if_so P true xs a = a
if_so P false xs a = tt

-- what holds of the strokes along each line holds of all marks
abbrev between_of : Room → (across up : ℕ) → List Stroke
between_of room a u = upright_between room a ++ level_between room u

abbrev round_of : Room → (across up : ℕ) → List Stroke
round_of room a u = (upright_at room a 0 ++ upright_at room a a) ++ (level_at room u 0 ++ level_at room u u)

abbrev outer_of : Room → (across up : ℕ) → List Stroke
outer_of room a u = if has_room_round room then round_of room a u else []

-- cut marks are those between cells and the outer ones, and so are fold marks with outer cut marks
abbrev all_of : Room → (across up : ℕ) → List Stroke
all_of room a u = (between_of room a u ++ outer_of room a u) ++ (between_of room a u ++ outer_of room a u)

holds_of_all : (P : Stroke → Type 0) (room : Room) (a u : ℕ) → ((k : ℕ) → AllByRecursion P (upright_at room a k)) → ((k : ℕ) → AllByRecursion P (level_at room u k)) → AllByRecursion P (all_of room a u)
holds_of_all P room a u across up =
    let between = both P (upright_between room a) (level_between room u) (each P (upright_at room a) across 1 (a - 1)) (each P (level_at room u) up 1 (u - 1)) in
    let round =
    both P (upright_at room a 0 ++ upright_at room a a) (level_at room u 0 ++ level_at room u u)
    (both P (upright_at room a 0) (upright_at room a a) (across 0) (across a))
    (both P (level_at room u 0) (level_at room u u) (up 0) (up u)) in
    let once = both P (between_of room a u) (outer_of room a u) between (if_so P (has_room_round room) (round_of room a u) round) in
    both P (between_of room a u ++ outer_of room a u) (between_of room a u ++ outer_of room a u) once once

-- ---- outside

abbrev cell_of : (left bottom width height : ℕ) → Cell
cell_of left bottom width height = record { left = left; bottom = bottom; width = width; height = height }

-- where the part of a side of w grains that a cell takes begins, and the whole cell
abbrev place : Along → (w parts c : ℕ) → ℕ
place a w parts c = kept_length a.trim a.before + c * pitch a w parts

abbrev cell_in : Room → (a u c d : ℕ) → Cell
cell_in room a u c d =
    cell_of (place (along_width room) (nat_abs room.paper.width) a c) (place (along_height room) (nat_abs room.paper.height) u d) (cell (along_width room) (nat_abs room.paper.width) a) (cell (along_height room) (nat_abs room.paper.height) u)

upright_outside : (room : Room) (a u c d : ℕ) → 0 < cell (along_width room) (nat_abs room.paper.width) a → (k : ℕ) → AllByRecursion (IsOutsideCell (cell_in room a u c d)) (upright_at room a k)
upright_outside room a u c d some k = elim (parted (kept_length room.trim room.left) (kept_length room.trim room.gutter_across) (pitch (along_width room) (nat_abs room.paper.width) a) c k some) [
  | inl before ↦ let le = at_most before in (inl (inl (le, le)), (inl (inl (le, le)), tt))
  | inr behind ↦ let le = at_most behind in (inl (inr (le, le)), (inl (inr (le, le)), tt))
]

level_outside : (room : Room) (a u c d : ℕ) → 0 < cell (along_height room) (nat_abs room.paper.height) u → (k : ℕ) → AllByRecursion (IsOutsideCell (cell_in room a u c d)) (level_at room u k)
level_outside room a u c d some k = elim (parted (kept_length room.trim room.bottom) (kept_length room.trim room.gutter_up) (pitch (along_height room) (nat_abs room.paper.height) u) d k some) [
  | inl before ↦ let le = at_most before in (inr (inl (le, le)), (inr (inl (le, le)), tt))
  | inr behind ↦ let le = at_most behind in (inr (inr (le, le)), (inr (inr (le, le)), tt))
]

all_outside : (room : Room) (a u c d : ℕ) → 0 < cell (along_width room) (nat_abs room.paper.width) a → 0 < cell (along_height room) (nat_abs room.paper.height) u
    → AllByRecursion (IsOutsideCell (cell_in room a u c d)) (all_of room a u)
all_outside room a u c d wide high =
    holds_of_all (IsOutsideCell (cell_in room a u c d)) room a u (upright_outside room a u c d wide) (level_outside room a u c d high)

abbrev cells : (rows columns : ℕ) → Bool → Grid
cells rows columns turned = record { rows = rows; columns = columns; turned = turned }

outside_at : (room : Room) (rows columns : ℕ) (b : Bool) (row column : ℕ) → 0 < wide room (cells rows columns b) → 0 < high room (cells rows columns b)
    → AllByRecursion (IsOutsideCell (cell_at room (cells rows columns b) row column)) (all_marks room (cells rows columns b))
outside_at room rows columns false row column some_wide some_high = all_outside room columns rows column (rows - (row + 1)) some_wide some_high
outside_at room rows columns true row column some_wide some_high = all_outside room rows columns row column some_high some_wide

pub marks_are_outside : MarksAreOutside
marks_are_outside room g row column some_wide some_high in_rows in_columns = outside_at room g.rows g.columns g.turned row column some_wide some_high

-- ---- in the margin

pub not_zero : (n : ℕ) → (suc n == 0) ≡ false
not_zero n = search rules

far_is : (edge : ℕ) → 0 < edge → (if edge == 0 then longest else edge) ≡ edge
far_is zero lt = absurd (omega (arith, lt))
far_is (suc n) lt = rw (not_zero n) refl

-- how far strokes reach from an edge
reach : (edge : ℕ) → 0 < edge → (near_end edge ≤ grains_in edge) × (far_end edge ≤ grains_in edge)
reach edge some = let is = ap grains_in (far_is edge some) in (omega (arith, is), omega (arith, is))

far : (side : ℤ) (a e : ℕ) → a ≤ e → (side -ℤ pos e) ≤ℤ (side -ℤ pos a)
far side a e le = omega (arith, ints, le)

upright_in_margin : (room : Room) → 0 < room.bottom → 0 < room.top → (x : ℤ) → AllByRecursion (IsInMargin room) (upright_strokes room x)
upright_in_margin room some some' x =
    let low = reach room.bottom some in
    let high = reach room.top some' in
    let e = grains_in room.top in
    let h = room.paper.height in
    (inr (inl (at_most low.0, at_most low.1)), (inr (inr (far h (near_end room.top) e high.0, far h (far_end room.top) e high.1)), tt))

level_in_margin : (room : Room) → 0 < room.left → 0 < room.right → (y : ℤ) → AllByRecursion (IsInMargin room) (level_strokes room y)
level_in_margin room some some' y =
    let low = reach room.left some in
    let high = reach room.right some' in
    let e = grains_in room.right in
    let w = room.paper.width in
    (inl (inl (at_most low.0, at_most low.1)), (inl (inr (far w (near_end room.right) e high.0, far w (far_end room.right) e high.1)), tt))

-- what holds of the strokes along each line holds of all marks of a poster's sheet
holds_of_tile : (P : Stroke → Type 0) (room : Room) (g : Grid) (overlap : ℕ) → ((x : ℤ) → AllByRecursion P (upright_strokes room x)) → ((y : ℤ) → AllByRecursion P (level_strokes room y))
    → AllByRecursion P (tile_marks room g overlap)
holds_of_tile P room g overlap across up =
    let two_across : (x x' : ℤ) → AllByRecursion P (upright_strokes room x ++ upright_strokes room x') =
    λ x x'. both P (upright_strokes room x) (upright_strokes room x') (across x) (across x') in
    let two_up : (y y' : ℤ) → AllByRecursion P (level_strokes room y ++ level_strokes room y') =
    λ y y'. both P (level_strokes room y) (level_strokes room y') (up y) (up y') in
    both P (outer_of room 1 1) (overlaps_beside room g.columns overlap ++ overlaps_above room g.rows overlap)
    (if_so P (has_room_round room) (round_of room 1 1)
    (both P (upright_at room 1 0 ++ upright_at room 1 1) (level_at room 1 0 ++ level_at room 1 1) (two_across _ _) (two_up _ _)))
    (both P (overlaps_beside room g.columns overlap) (overlaps_above room g.rows overlap)
    (if_so P (nat_lt 1 g.columns && nat_lt 0 overlap) _ (two_across _ _))
    (if_so P (nat_lt 1 g.rows && nat_lt 0 overlap) _ (two_up _ _)))

pub marks_are_in_margin : MarksAreInMargin
marks_are_in_margin room g overlap left right bottom top =
    let across = upright_in_margin room bottom top in
    let up = level_in_margin room left right in
    both (IsInMargin room) (all_marks room g) (tile_marks room g overlap)
    (holds_of_all (IsInMargin room) room (cells_across g) (cells_up g) (λ k. across _) (λ k. up _))
    (holds_of_tile (IsInMargin room) room g overlap across up)
