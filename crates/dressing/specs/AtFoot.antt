-- Where page numbers are: in the middle of their cells, 18 points above the foot. All here is this project's own rules.
use Rattle.std.specs.Prelude.{◌≡◌, ℕ, ◌+◌, ◌*◌, ◌≤◌, ℤ, pos, ◌+ℤ◌, ◌-ℤ◌, ◌*ℤ◌, ◌≤ℤ◌, Option, Some}
use Rattle.rules.specs.Papers.{Paper}
use Rattle.rules.specs.Placement.{Point, moved, offset, turned}
use Rattle.rules.specs.Specification.{Item, Turn, Upright, Left, Half, Right}
use Rattle.layouts.specs.Laws.{Cell, IsInMiddle, IsPaper, LiesInCell}
use Rattle.layouts.specs.Placed.{finer}
use Rattle.sheet_text.specs.PageNumbers.{above_foot, middle, rise}

-- where a number's line begins on the sheet, in grains, which has as much of the number on its left as on its right: the line that
-- draws it moves to the page's corner, turns as the page is turned, and goes to the middle of the page's lower edge and up
abbrev pub number_point : (below : Option ℤ) → Paper → Item → Point
number_point below paper item =
    moved (offset paper item) (turned item.turn (record { x = pos (middle item.scale paper.width); y = rise below paper item }))

-- how high a cell is as one holds the sheet for pages of this turn to be upright, in 10^-5 of a point
abbrev pub high_as_held : Turn → Cell → ℕ
high_as_held Upright cell = cell.height
high_as_held Left cell = cell.width
high_as_held Half cell = cell.height
high_as_held Right cell = cell.width

-- twice as far as the point 18 points above the foot of a cell, in its middle, as one holds the sheet so
abbrev pub twice_foot : Turn → Cell → Point
twice_foot Upright cell = record { x = pos (2 * cell.left + cell.width); y = pos (2 * cell.bottom + 3_600_000) }
twice_foot Left cell = record { x = pos (2 * (cell.left + cell.width)) -ℤ pos 3_600_000; y = pos (2 * cell.bottom + cell.height) }
twice_foot Half cell = record { x = pos (2 * cell.left + cell.width); y = pos (2 * (cell.bottom + cell.height)) -ℤ pos 3_600_000 }
twice_foot Right cell = record { x = pos (2 * cell.left + 3_600_000); y = pos (2 * cell.bottom + cell.height) }

-- a length in grains is half of one in 10^-5 of a point, but for 2 of these
abbrev pub IsHalfOf : (twice grains : ℤ) → Type 0
IsHalfOf twice grains = ((pos 2 *ℤ grains) ≤ℤ ((pos 1_270_000 *ℤ twice) +ℤ pos 5_080_000))
    × ((pos 1_270_000 *ℤ twice) ≤ℤ ((pos 2 *ℤ grains) +ℤ pos 5_080_000))

-- a number whose line begins at this point is at the foot of the cell, in its middle; what is drawn on that line up to 18 points
-- high is in the cell, but for 2 * 10^-5 of a point, if the cell is 36 points high
pub record IsAtFoot (turn : Turn) (cell : Cell) (p : Point) : Type 0 where
  pub across : IsHalfOf (twice_foot turn cell).x p.x
  pub up : IsHalfOf (twice_foot turn cell).y p.y
  pub in_cell : (high : ℕ) → high ≤ above_foot → 3_600_000 ≤ high_as_held turn cell
      → LiesInCell cell 2 (finer (moved p (turned turn (record { x = pos 0; y = pos high }))))

-- the number of each page that is in the middle of its cell is at its foot, as by `impose nup 4 --numbers 9pt`: a law
abbrev pub NumbersAreAtFoot : Type 0
NumbersAreAtFoot = (turn : Turn) (page : Paper) (cell : Cell) (item : Item) (scale : ℕ) → IsPaper page → item.turn ≡ turn
    → item.scale ≡ pos scale → IsInMiddle page cell item
    → IsAtFoot turn cell (number_point (Some (pos (635_000 * high_as_held turn cell))) page item)
