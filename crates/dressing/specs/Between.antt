-- Where marks are: on lines in the middle between cells, at both ends of each. A booklet's are on its fold.
use Rattle.std.specs.Prelude.{◌≡◌, ℕ, ◌+◌, ◌-◌, ◌*◌, ◌<◌, ℤ, pos, ◌+ℤ◌, ◌-ℤ◌, ◌≤ℤ◌, true, if◌then◌else◌, List, [], ◌∷◌, ◌++◌, flat_map, None}
use Rattle.std.specs.List.{AllByRecursion, range_with_len}
use Rattle.rules.specs.Papers.{Paper}
use Rattle.layouts.specs.declared.arrangement.Binding.{Binding}
use Rattle.layouts.specs.Placed.{Room}
use Rattle.layouts.specs.Cells.{Along, Grid, along_height, along_width, high, kept_length, wide, grains_in, cells_across, cells_up}
use Rattle.layouts.specs.Fitted.{HaveOneFold, binding_setting_of}
use Rattle.layouts.specs.Grids.{beside, room_of}
use Rattle.layouts.specs.Laws.{Cell, IsPaper, cell_at}
use Rattle.layouts.specs.Refusals.{why_not_bound}
use Rattle.dressing.specs.Strokes.{cut_marks, far_end, fold_marks, has_room_round, longest, outer_cut_marks}
use Rattle.dressing.specs.declared.strokes.Stroke.{Stroke}

-- the cell that has so many cells on its left, and so many below it, as the sheet lies
abbrev pub cell_beside : Room → Grid → (across up : ℕ) → Cell
cell_beside room g across up =
    if g.turned then cell_at room g across up else cell_at room g (g.rows - (up + 1)) across

-- half of the gap that is kept between cells, in grains
abbrev pub half_gap : Along → ℕ
half_gap a = 635_000 * kept_length a.trim a.gap

-- what is so far from the left edge is half a gap right of a cell, or left of it
abbrev pub IsRightOf : Room → Cell → (x : ℤ) → Type 0
IsRightOf room cell x = x ≡ pos (grains_in (cell.left + cell.width) + half_gap (along_width room))

abbrev pub IsLeftOfCell : Room → Cell → (x : ℤ) → Type 0
IsLeftOfCell room cell x = (x +ℤ pos (half_gap (along_width room))) ≡ pos (grains_in cell.left)

-- what is so far from the lower edge is half a gap above a cell, or below it
abbrev pub IsAboveCell : Room → Cell → (y : ℤ) → Type 0
IsAboveCell room cell y = y ≡ pos (grains_in (cell.bottom + cell.height) + half_gap (along_height room))

abbrev pub IsBelow : Room → Cell → (y : ℤ) → Type 0
IsBelow room cell y = (y +ℤ pos (half_gap (along_height room))) ≡ pos (grains_in cell.bottom)

-- upright line k is so far from the left edge: half a gap right of each cell k - 1, and left of each cell k; so in the
-- middle between both. The first line has no cells on its left, and the last one none on its right
pub record IsUpright (room : Room) (g : Grid) (k : ℕ) (x : ℤ) : Type 0 where
  pub right : (up : ℕ) → 0 < k → IsRightOf room (cell_beside room g (k - 1) up) x
  pub left : (up : ℕ) → k < cells_across g → IsLeftOfCell room (cell_beside room g k up) x

-- level line k is so far from the lower edge
pub record IsLevel (room : Room) (g : Grid) (k : ℕ) (y : ℤ) : Type 0 where
  pub above : (across : ℕ) → 0 < k → IsAboveCell room (cell_beside room g across (k - 1)) y
  pub below : (across : ℕ) → k < cells_up g → IsBelow room (cell_beside room g across k) y

-- a stroke, measured from an edge of the sheet: it isn't too long, and ends where the margin there does, if there is one
abbrev pub IsAtEdge : (edge : ℕ) → (from to : ℤ) → Type 0
IsAtEdge edge from to =
    (pos 0 ≤ℤ from) × ((from +ℤ pos 1) ≤ℤ to) × (to ≤ℤ (from +ℤ pos (grains_in longest))) × (to ≡ pos (far_end edge))

-- the two strokes of upright line k: along it, at the lower and at the upper edge
pub record MarksUpright (room : Room) (g : Grid) (k : ℕ) (strokes : List Stroke) : Type 0 where
  pub lower : Stroke
  pub upper : Stroke
  pub two : strokes ≡ lower ∷ upper ∷ []
  pub along : AllByRecursion (λ s. IsUpright room g k s.start.0 × IsUpright room g k s.end.0) strokes
  pub at_lower : IsAtEdge room.bottom lower.start.1 lower.end.1
  pub at_upper : IsAtEdge room.top (room.paper.height -ℤ upper.start.1) (room.paper.height -ℤ upper.end.1)

-- the marks of level line k: along it, at the left and at the right edge
pub record MarksLevel (room : Room) (g : Grid) (k : ℕ) (strokes : List Stroke) : Type 0 where
  pub left : Stroke
  pub right : Stroke
  pub two : strokes ≡ left ∷ right ∷ []
  pub along : AllByRecursion (λ s. IsLevel room g k s.start.1 × IsLevel room g k s.end.1) strokes
  pub at_left : IsAtEdge room.left left.start.0 left.end.0
  pub at_right : IsAtEdge room.right (room.paper.width -ℤ right.start.0) (room.paper.width -ℤ right.end.0)

-- strokes are those of these upright lines and of these level ones, and no others
pub record AreMarksOf (room : Room) (g : Grid) (upright level : List ℕ) (strokes : List Stroke) : Type 0 where
  pub of_upright : ℕ → List Stroke
  pub of_level : ℕ → List Stroke
  pub all : strokes ≡ flat_map of_upright upright ++ flat_map of_level level
  pub mark_upright : AllByRecursion (λ k. MarksUpright room g k (of_upright k)) upright
  pub mark_level : AllByRecursion (λ k. MarksLevel room g k (of_level k)) level

-- the lines between so many cells, and those round them if the margins have room for these
abbrev pub line_numbers : (parts : ℕ) → List ℕ
line_numbers parts = range_with_len 1 (parts - 1)

abbrev pub lines_round : Room → (parts : ℕ) → List ℕ
lines_round room parts = if has_room_round room then 0 ∷ parts ∷ [] else []

-- a sheet is folded along the lines between its cells; its cut marks are those and the outer ones, which are round its cells
pub record HasItsMarks (room : Room) (g : Grid) : Type 0 where
  pub folds : AreMarksOf room g (line_numbers (cells_across g)) (line_numbers (cells_up g)) (fold_marks room g)
  pub outer_cuts : AreMarksOf room g (lines_round room (cells_across g)) (lines_round room (cells_up g)) (outer_cut_marks room g)
  pub cuts : cut_marks room g ≡ fold_marks room g ++ outer_cut_marks room g

-- as long as cells have room for pages: a law
abbrev pub MarksAreBetween : Type 0
MarksAreBetween = (room : Room) (g : Grid) → 0 < wide room g → 0 < high room g → HasItsMarks room g

-- the whole stroke lies on a level line, of which the number says twice how far up it is; but if pages are trimmed, half of
-- 10^-5 of a point below it, as what is kept of the gap is rounded
abbrev pub IsAlong : Room → (twice : ℕ) → Stroke → Type 0
IsAlong room twice s =
    (s.start.1 ≡ pos (635_000 * (twice - kept_length room.trim 0))) × (s.end.1 ≡ pos (635_000 * (twice - kept_length room.trim 0)))

-- a booklet's fold marks lie on its fold, the one line that no page in either half crosses: a law
abbrev pub FoldMarksAreOnFold : Type 0
FoldMarksAreOnFold = (page sheet : Paper) (b : Binding) → IsPaper sheet → why_not_bound page sheet b ≡ None
    → (fold : HaveOneFold (binding_setting_of sheet b) b.right_to_left)
    × AllByRecursion (IsAlong (room_of sheet b.free) fold.twice)
    (fold_marks (room_of sheet b.free) (beside true))
