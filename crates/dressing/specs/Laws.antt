-- What holds of marks and numbers.
use Rattle.std.specs.Prelude.{◌≡◌, ◌⊎◌, ℕ, ◌+◌, ◌*◌, ◌<◌, ◌≤◌, ℤ, pos, ◌-ℤ◌, ◌*ℤ◌, ◌≤ℤ◌, List, ◌++◌}
use Rattle.std.specs.List.{AllByRecursion}
use Rattle.rules.specs.Dress.{Dress}
use Rattle.imposed_again.specs.MadeAgain.{IsTameDress}
use Rattle.rules.specs.Papers.{Paper}
use Rattle.rules.specs.Placement.{Point}
use Rattle.rules.specs.Specification.{Item}
use Rattle.layouts.specs.Placed.{Room, IsOfPage, stands}
use Rattle.layouts.specs.Cells.{Along, Grid, gap_at, grains_in, high, item_in_cell, size, pitch, wide}
use Rattle.layouts.specs.Laws.{Cell, HasPlace, IsPaper, cell_at}
use Rattle.layouts.specs.declared.arrangement.Order.{Order}
use Rattle.dressing.specs.Strokes.{cut_marks, fold_marks, outer_cut_marks, tile_marks}
use Rattle.dressing.specs.Ruled.{note_cell, note_lines, row_lines}
use Rattle.dressing.specs.Numbered.{Drawn, drawn_on}
use Rattle.dressing.specs.declared.strokes.Stroke.{Stroke}

-- if the margin has room for half a gap, all pieces of a side that is cut in the middle of its gaps are as wide
abbrev pub PiecesAreLike : Type 0
PiecesAreLike = (a : Along) (side parts k : ℕ) → a.gap ≤ 2 * a.before
    → gap_at a side parts (k + 1) ≡ gap_at a side parts k + grains_in (pitch a side parts)

-- both ends of a stroke, measured in one direction, are at most this far
abbrev pub AreAtMost : (one other : ℤ) → (most : ℤ) → Type 0
AreAtMost one other most = (one ≤ℤ most) × (other ≤ℤ most)

abbrev pub AreAtLeast : (one other : ℤ) → (least : ℤ) → Type 0
AreAtLeast one other least = (least ≤ℤ one) × (least ≤ℤ other)

-- the whole stroke lies on one side of what is between two upright and two level lines: left of it, right of it, below it,
-- or above it
abbrev pub IsOutside : (left right bottom top : ℤ) → Stroke → Type 0
IsOutside left right bottom top s =
    (AreAtMost s.start.0 s.end.0 left ⊎ AreAtLeast s.start.0 s.end.0 right)
    ⊎ (AreAtMost s.start.1 s.end.1 bottom ⊎ AreAtLeast s.start.1 s.end.1 top)

-- a stroke goes over nothing of a cell
abbrev pub IsOutsideCell : Cell → Stroke → Type 0
IsOutsideCell cell s = IsOutside (pos (grains_in cell.left)) (pos (grains_in (cell.left + cell.width)))
    (pos (grains_in cell.bottom)) (pos (grains_in (cell.bottom + cell.height))) s

-- a stroke goes over nothing between the margins of a sheet
abbrev pub IsInMargin : Room → Stroke → Type 0
IsInMargin room s = IsOutside (pos (grains_in room.left)) (room.paper.width -ℤ pos (grains_in room.right))
    (pos (grains_in room.bottom)) (room.paper.height -ℤ pos (grains_in room.top)) s

-- all marks that a sheet may have
abbrev pub all_marks : Room → Grid → List Stroke
all_marks room g = cut_marks room g ++ (fold_marks room g ++ outer_cut_marks room g)

-- no mark goes over a cell, as long as cells have room for pages
abbrev pub MarksAreOutside : Type 0
MarksAreOutside = (room : Room) (g : Grid) (row column : ℕ) → 0 < wide room g → 0 < high room g
    → row < g.rows → column < g.columns
    → AllByRecursion (IsOutsideCell (cell_at room g row column)) (all_marks room g)

-- a number of grains, in 10^-9 of a grain
abbrev pub in_billionths : ℤ → ℤ
in_billionths grains = pos 1_000_000_000 *ℤ grains

-- the whole stroke lies on one side of a point, which is given in 10^-9 of a grain: left of it, right of it, below it, or
-- above it
abbrev pub IsPast : Stroke → Point → Type 0
IsPast s p =
    (AreAtMost (in_billionths s.start.0) (in_billionths s.end.0) p.x ⊎ AreAtLeast (in_billionths s.start.0) (in_billionths s.end.0) p.x)
    ⊎ (AreAtMost (in_billionths s.start.1) (in_billionths s.end.1) p.y ⊎ AreAtLeast (in_billionths s.start.1) (in_billionths s.end.1) p.y)

-- a stroke goes over no point of a placed page
abbrev pub GoesPast : Room → (page : Paper) → Item → Stroke → Type 0
GoesPast room page item s = (p : Point) → IsOfPage room.trim page p → IsPast s (stands page item p)

-- no mark goes over a page in a cell, as long as nothing is trimmed of pages: what is trimmed may reach over the cell
abbrev pub MarksMissPages : Type 0
MarksMissPages = (page : Paper) (room : Room) (g : Grid) (o : Order) (s k : ℕ) → IsPaper page → HasPlace page room g s
    → room.trim ≡ 0 → k < size g → AllByRecursion (GoesPast room page (item_in_cell page room g o s k)) (all_marks room g)

-- if there is a margin along each edge, all marks are in them, also those of a poster's sheet
abbrev pub MarksAreInMargin : Type 0
MarksAreInMargin = (room : Room) (g : Grid) (overlap : ℕ) → 0 < room.left → 0 < room.right → 0 < room.bottom → 0 < room.top
    → AllByRecursion (IsInMargin room) (all_marks room g ++ tile_marks room g overlap)

-- the whole stroke lies in a cell
pub record StrokeIsInCell (cell : Cell) (s : Stroke) : Type 0 where
  pub left : AreAtLeast s.start.0 s.end.0 (pos (grains_in cell.left))
  pub right : AreAtMost s.start.0 s.end.0 (pos (grains_in (cell.left + cell.width)))
  pub bottom : AreAtLeast s.start.1 s.end.1 (pos (grains_in cell.bottom))
  pub top : AreAtMost s.start.1 s.end.1 (pos (grains_in (cell.bottom + cell.height)))

-- the lines for notes of a row lie in its cell for notes
abbrev pub LinesAreInCell : Type 0
LinesAreInCell = (room : Room) (g : Grid) (row : ℕ) → AllByRecursion (StrokeIsInCell (note_cell room g row)) (row_lines room g row)

-- none of them goes over a cell of the columns before
abbrev pub LinesAreBeside : Type 0
LinesAreBeside = (room : Room) (g : Grid) (row column : ℕ) → column + 1 < g.columns
    → AllByRecursion (IsOutsideCell (cell_at room g row column)) (note_lines room g)

-- the lines that draw strokes and numbers begin no page, no data and no embedded document, so what they are added to is a
-- document again
abbrev pub DrawnIsTame : Type 0
DrawnIsTame = (drawn : Drawn) (dress : Dress) → IsTameDress dress → IsTameDress (drawn_on drawn dress)
