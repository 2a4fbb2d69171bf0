-- What holds of the pages in a grid.
use Rattle.std.specs.Prelude.{◌≡◌, ◌≢◌, ℕ, ◌+◌, ◌-◌, ◌*◌, ◌/◌, ◌%◌, ◌<◌, ◌≤◌, nat_abs, ℤ, pos, ◌+ℤ◌, ◌*ℤ◌, ◌-ℤ◌, ◌≤ℤ◌}
use Rattle.std.specs.Prelude.{Bool, true, false, if◌then◌else◌, IsTrue}
use Rattle.rules.specs.Papers.{Paper, is_paper}
use Rattle.rules.specs.Specification.{Item}
use Rattle.rules.specs.Placement.{Point, matrix_of}
use Rattle.placement.specs.Printed.{printed_matrix}
use Rattle.layouts.specs.declared.arrangement.Cells.{Cells}
use Rattle.layouts.specs.declared.arrangement.Cells.TheVariants.{AtLeast, Exactly}
use Rattle.layouts.specs.declared.arrangement.FillOrder.{FillOrder}
use Rattle.layouts.specs.declared.arrangement.FillOrder.TheVariants.{Rows, Columns}
use Rattle.layouts.specs.declared.arrangement.Turned.{Turned}
use Rattle.layouts.specs.declared.arrangement.Order.{Order}
use Rattle.layouts.specs.Placed.{IsEven, Room, stands, fine, IsOfPage, IsInside, AreApart, IsLeftOf, IsAbove}
use Rattle.layouts.specs.Cells.{Along, Grid, size, held_width, held_height, held_across, held_down, left_free, step_across, step_down, wide, high, kept_length, trimmed_side}
use Rattle.layouts.specs.Cells.{exact_scale, scale_in, item_in_cell, back_in, run_in, read_columns, read_rows, row_of, column_of}
use Rattle.layouts.specs.Cells.{whole_parts}
use Rattle.layouts.specs.Grids.{best_grid, formed}
use Rattle.layouts.specs.Grids.{leaf_order, beside}

abbrev pub IsPaper : Paper → Type 0
IsPaper paper = IsTrue (is_paper paper.width paper.height)

-- a page has a place in the cells of a grid at this scale: something is left of it, and the cells are large enough
pub record HasPlace (page : Paper) (room : Room) (g : Grid) (scale : ℕ) : Type 0 where
  pub some_wide : 2_540_000 * room.trim < nat_abs page.width
  pub some_high : 2_540_000 * room.trim < nat_abs page.height
  pub above_zero : 0 < scale
  pub fits : scale ≤ scale_in page room g

-- each page in a cell lies on what the margins leave of the sheet
abbrev pub GridIsInside : Type 0
GridIsInside = (page : Paper) (room : Room) (g : Grid) (o : Order) (s k : ℕ) → IsPaper page → IsPaper room.paper
    → HasPlace page room g s → k < size g
    → IsInside room page (item_in_cell page room g o s k)

-- two pages in cells, also of two papers and two scales, are as far apart as the gap, at least
abbrev pub GridIsApart : Type 0
GridIsApart =
    (page page' : Paper) (room : Room) (g : Grid) (o : Order) (s s' k l : ℕ) → IsPaper page → IsPaper page'
    → IsPaper room.paper → HasPlace page room g s → HasPlace page' room g s' → k < size g → l < size g → k ≢ l
    → AreApart room page (item_in_cell page room g o s k) page' (item_in_cell page' room g o s' l)

-- beside one another, the one first: left of it, or right of it
abbrev pub IsBeside : Room → Turned → (right_to_left : Bool) → (page : Paper) → (one : Item) → (page' : Paper) → (other : Item) → Type 0
IsBeside room t false page one page' other = IsLeftOf room t page one page' other
IsBeside room t true page one page' other = IsLeftOf room t page' other page one

-- in a run of the order the one comes first; and in another run, one that comes first
abbrev pub ComesInRun : FillOrder → Room → Turned → (right_to_left : Bool) → (page : Paper) → (one : Item) → (page' : Paper) → (other : Item) → Type 0
ComesInRun Rows room t right_to_left page one page' other = IsBeside room t right_to_left page one page' other
ComesInRun Columns room t right_to_left page one page' other = IsAbove room t page one page' other

abbrev pub ComesInRunBefore : FillOrder → Room → Turned → (right_to_left : Bool) → (page : Paper) → (one : Item) → (page' : Paper) → (other : Item) → Type 0
ComesInRunBefore Rows room t right_to_left page one page' other = IsAbove room t page one page' other
ComesInRunBefore Columns room t right_to_left page one page' other = IsBeside room t right_to_left page one page' other

-- as one reads the sheet, page k is the (k % run)th of its run, and is in the (k / run)th
abbrev pub GridIsInOrder : Type 0
GridIsInOrder =
    (page page' : Paper) (room : Room) (g : Grid) (o : Order) (s s' k l : ℕ) → IsPaper page → IsPaper page'
    → IsPaper room.paper → HasPlace page room g s → HasPlace page' room g s' → k < size g → l < size g
    → (k % run_in o.run o.turned g < l % run_in o.run o.turned g
    → ComesInRun o.run room o.turned o.right_to_left page (item_in_cell page room g o s k) page' (item_in_cell page' room g o s' l))
    × (k / run_in o.run o.turned g < l / run_in o.run o.turned g
    → ComesInRunBefore o.run room o.turned o.right_to_left page (item_in_cell page room g o s k) page' (item_in_cell page' room g o s' l))

-- exact parts of what the margins and the gaps leave of a side have room for pages of this scale, in 10^-9, of which so much
-- counts
abbrev pub AllowsAlong : Along → (side parts page scale : ℕ) → Type 0
AllowsAlong a side parts page scale = scale * page * parts + 1_270_000_000_000_000 * (kept_length a.trim a.gap * parts)
    ≤ 1_000_000_000 * left_free a side + 1_270_000_000_000_000 * kept_length a.trim a.gap

pub record Allows (page : Paper) (room : Room) (g : Grid) (scale : ℕ) : Type 0 where
  pub wide : AllowsAlong (held_across g.turned room) (held_width g.turned room.paper) g.columns (trimmed_side room page.width) scale
  pub high : AllowsAlong (held_down g.turned room) (held_height g.turned room.paper) g.rows (trimmed_side room page.height) scale

-- the sides that count are 11 points or more
abbrev pub IsNotTiny : (page : Paper) → Room → Type 0
IsNotTiny page room = (1_397_000_000_000 ≤ trimmed_side room page.width) × (1_397_000_000_000 ≤ trimmed_side room page.height)

-- no grid of n cells or more, upright or turned, allows a scale that is larger by 10^-6 or more
abbrev pub BestIsLarge : Type 0
BestIsLarge =
    (page : Paper) (room : Room) (n : ℕ) (g : Grid) (t : ℕ) → IsNotTiny page room → 0 < n
    → n ≤ size g → Allows page room g t
    → t < scale_in page room (best_grid page room n) + 1_000

-- in exact parts of the sheet the one has the larger scale; or the same, and no more cells; of grids with the same scale and as many cells it is
-- upright if the other is, and has no more columns if both are
pub record IsAsGood (page : Paper) (room : Room) (one other : Grid) : Type 0 where
  pub large : exact_scale page room other ≤ exact_scale page room one
  pub few : exact_scale page room one ≡ exact_scale page room other → size one ≤ size other
  pub upright : exact_scale page room one ≡ exact_scale page room other → size one ≡ size other
      → other.turned ≡ false → one.turned ≡ false
  pub narrow : exact_scale page room one ≡ exact_scale page room other → size one ≡ size other
      → one.turned ≡ other.turned → one.columns ≤ other.columns

-- no grid of n cells or more is better
abbrev pub BestIsBest : Type 0
BestIsBest = (page : Paper) (room : Room) (n : ℕ) (g : Grid) → 0 < n → n ≤ size g
    → IsAsGood page room (best_grid page room n) g

-- the chosen grid has n cells or more
abbrev pub BestHasCells : Type 0
BestHasCells = (page : Paper) (room : Room) (n : ℕ) → 0 < n → n ≤ size (best_grid page room n)

-- each page of a sheet turned by half lies on what even margins leave too
abbrev pub BackIsInside : Type 0
BackIsInside = (page : Paper) (room : Room) (g : Grid) (o : Order) (s n k : ℕ) → IsPaper page → IsPaper room.paper
    → IsEven room → HasPlace page room g s → k < size g
    → IsInside room page (back_in page room g o s n k)

-- the other stands where the one would, were the sheet turned by half about the middle of its whole 10^-5 of a point
pub record IsHalfTurnOf (page sheet : Paper) (one other : Item) : Type 0 where
  pub across : (p : Point)
      → (stands page other p).x
      ≡ (pos 1_270_000_000_000_000 *ℤ pos (whole_parts (nat_abs sheet.width))) -ℤ (stands page one p).x
  pub up : (p : Point)
      → (stands page other p).y
      ≡ (pos 1_270_000_000_000_000 *ℤ pos (whole_parts (nat_abs sheet.height))) -ℤ (stands page one p).y

abbrev pub BackIsHalfTurn : Type 0
BackIsHalfTurn = (page : Paper) (room : Room) (g : Grid) (o : Order) (s n k : ℕ)
    → IsHalfTurnOf page room.paper (item_in_cell page room g o s k) (back_in page room g o s n k)

-- the shift of the page is printed as it is: the matrix that is written is the item's own
abbrev pub IsExact : (page : Paper) → Item → Type 0
IsExact page item = printed_matrix (matrix_of page item) ≡ matrix_of page item

abbrev pub PrintedAsItIs : Type 0
PrintedAsItIs = (page : Paper) (room : Room) (g : Grid) (o : Order) (s n k : ℕ)
    → IsExact page (item_in_cell page room g o s k) × IsExact page (back_in page room g o s n k)

-- a cell on the sheet, in 10^-5 of a point
pub record Cell : Type 0 where
  pub left : ℕ
  pub bottom : ℕ
  pub width : ℕ
  pub height : ℕ

-- the cell in this row and column, as one holds the sheet for its pages to be upright
abbrev pub cell_at : Room → Grid → (row column : ℕ) → Cell
cell_at room g row column = if g.turned
    then record {
      left = kept_length room.trim room.left + row * step_down room g;
      bottom = kept_length room.trim room.bottom + column * step_across room g;
      width = high room g;
      height = wide room g;
    }
    else record {
      left = kept_length room.trim room.left + column * step_across room g;
      bottom = kept_length room.trim room.bottom + (g.rows - (row + 1)) * step_down room g;
      width = wide room g;
      height = high room g;
    }

-- twice a number is as far from the sum of these two as 2 * 10^-5 of a point, at most
abbrev pub IsMean : (twice : ℕ) → (one other : ℤ) → Type 0
IsMean twice one other =
    ((one +ℤ other) ≤ℤ pos (1_270_000_000_000_000 * twice + 2_540_000_000_000_000))
    × (pos (1_270_000_000_000_000 * twice) ≤ℤ ((one +ℤ other) +ℤ pos 2_540_000_000_000_000))

-- the middle of the page, which is halfway between its lower left and its upper right corner, is the middle of the cell,
-- to 10^-5 of a point
pub record IsInMiddle (page : Paper) (cell : Cell) (item : Item) : Type 0 where
  pub across : IsMean (2 * cell.left + cell.width) (stands page item (record { x = pos 0; y = pos 0 })).x
      (stands page item (record { x = page.width; y = page.height })).x
  pub up : IsMean (2 * cell.bottom + cell.height) (stands page item (record { x = pos 0; y = pos 0 })).y
      (stands page item (record { x = page.width; y = page.height })).y

abbrev pub GridIsInMiddle : Type 0
GridIsInMiddle = (page : Paper) (room : Room) (g : Grid) (o : Order) (s k : ℕ) → IsPaper page
    → HasPlace page room g s
    → IsInMiddle page (cell_at room g (row_of o g k) (column_of o g k)) (item_in_cell page room g o s k)

-- the sheet has this point in the cell, or past it by so many 10^-5 of a point at most
pub record LiesInCell (cell : Cell) (past : ℕ) (p : Point) : Type 0 where
  pub left : fine cell.left ≤ℤ (p.x +ℤ fine past)
  pub right : p.x ≤ℤ fine (cell.left + cell.width + past)
  pub bottom : fine cell.bottom ≤ℤ (p.y +ℤ fine past)
  pub top : p.y ≤ℤ fine (cell.bottom + cell.height + past)

-- each point of the placed page that counts lies in the cell
abbrev pub IsInCell : Room → (page : Paper) → Cell → (past : ℕ) → Item → Type 0
IsInCell room page cell past item = (p : Point) → IsOfPage room.trim page p → LiesInCell cell past (stands page item p)

-- exactly; but if pages are trimmed to 10^-5 of a point, since how far they are moved back is rounded
abbrev pub GridIsInCell : Type 0
GridIsInCell = (page : Paper) (room : Room) (g : Grid) (o : Order) (s k : ℕ) → IsPaper page
    → HasPlace page room g s
    → IsInCell room page (cell_at room g (row_of o g k) (column_of o g k)) (kept_length room.trim 0) (item_in_cell page room g o s k)

-- the grid is the one that is asked for, and takes pages as large as any, of this scale: with so many cells or more no
-- grid allows a scale that is larger by 10^-6 or more, and none with as large a scale, in exact parts of the sheet, has
-- fewer cells
abbrev pub IsChosen : (page : Paper) → Room → Turned → Cells → (largest : ℕ) → Grid → Type 0
IsChosen page room t (AtLeast n) largest g =
    (n ≤ size g)
    × ((h : Grid) (s : ℕ) → IsNotTiny page room → n ≤ size h → Allows page room h s → s < largest + 1_000)
    × ((h : Grid) → n ≤ size h → exact_scale page room g ≤ exact_scale page room h → size g ≤ size h)
IsChosen page room t (Exactly columns rows) largest g =
    (read_columns t g ≡ columns) × (read_rows t g ≡ rows)
    × ((b : Bool) (s : ℕ) → IsNotTiny page room → Allows page room (formed t b columns rows) s → s < largest + 1_000)

-- ---- leaves

-- the page lies before a line across the sheet, or beyond it, by half of the gap; the line is twice as far up as said
abbrev pub LiesBefore : Room → (twice : ℕ) → (page : Paper) → Item → Type 0
LiesBefore room twice page item = (p : Point) → IsOfPage room.trim page p
    → ((pos 2 *ℤ (stands page item p).y) +ℤ fine room.gutter_up) ≤ℤ fine twice

abbrev pub LiesBehind : Room → (twice : ℕ) → (page : Paper) → Item → Type 0
LiesBehind room twice page item = (p : Point) → IsOfPage room.trim page p
    → (fine twice +ℤ fine room.gutter_up) ≤ℤ (pos 2 *ℤ (stands page item p).y)

-- a line across the sheet, in its middle to 10^-5 of a point, with the one page before it and the other beyond it, each by
-- half of the gap: nothing crosses the fold
pub record KeepsFold (page : Paper) (room : Room) (one other : Item) : Type 0 where
  pub twice : ℕ
  pub no_farther : twice ≤ whole_parts (nat_abs room.paper.height) + 1
  pub no_nearer : whole_parts (nat_abs room.paper.height) ≤ twice + 1
  pub before : LiesBefore room twice page one
  pub behind : LiesBehind room twice page other

-- on a leaf with even margins the first page lies before the fold, and the second beyond it; from the right it is the other
-- way
abbrev pub LeafKeepsFold : Type 0
LeafKeepsFold = (page : Paper) (room : Room) (right_to_left : Bool) (s : ℕ) → IsPaper page → IsPaper room.paper
    → IsEven room → HasPlace page room (beside true) s
    → KeepsFold page room (item_in_cell page room (beside true) (leaf_order right_to_left) s (if right_to_left then 1 else 0))
    (item_in_cell page room (beside true) (leaf_order right_to_left) s (if right_to_left then 0 else 1))

-- bound at the right a page is where the other one is in a booklet that is bound at the left, and differs in
-- nothing else
abbrev pub RightToLeftIsMirror : Type 0
RightToLeftIsMirror = (page : Paper) (room : Room) (s k : ℕ) → k < 2
    → item_in_cell page room (beside true) (leaf_order true) s k
    ≡ record (item_in_cell page room (beside true) (leaf_order false) s (1 - k)) { page = k }
