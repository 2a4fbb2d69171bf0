-- Pages of several papers in the cells of one grid: each is fitted into its cell by its own sides. All here is this
-- project's own rules.
use Rattle.std.specs.Prelude.{◌≡◌, ◌≢◌, ℕ, ◌+◌, ◌-◌, ◌*◌, ◌/◌, ◌%◌, ◌<◌, ◌≤◌, nat_abs, Bool, ◌&&◌, ◌==◌, if◌then◌else◌}
use Rattle.std.specs.Prelude.{pos, true, not, Option, None, is_none}
use Rattle.rules.specs.Papers.{Paper}
use Rattle.rules.specs.Specification.{Item}
use Rattle.layouts.specs.declared.arrangement.Arrangement.{Arrangement}
use Rattle.layouts.specs.declared.arrangement.Binding.{Binding}
use Rattle.layouts.specs.declared.error.ArrangementError.{ArrangementError}
use Rattle.layouts.specs.declared.error.ArrangementError.TheVariants as why
use Rattle.layouts.specs.declared.setting.Setting.{Setting}
use Rattle.layouts.specs.Placed.{IsInside, AreApart}
use Rattle.layouts.specs.Cells.{Grid, size, kept_length, scale_in, item_in_cell, back_in, run_in, row_of, column_of, whole_parts}
use Rattle.layouts.specs.Grids.{page_alone, has_bare_edges, is_same, room_of, grid_of, scale_for, beside, leaf_order}
use Rattle.layouts.specs.Refusals.{error_unless, is_paper_reached, is_shown, why_no_scale, why_not_arranged, why_not_bound}
use Rattle.layouts.specs.Laws.{IsPaper, IsExact, IsInCell, IsInMiddle, cell_at, ComesInRun, ComesInRunBefore, IsNotTiny, Allows, LiesBefore, LiesBehind}

-- one page on a sheet of its own paper, where pages are upright, with nothing kept free, nothing trimmed, and no scale asked
-- for (RULES, 13.4)
abbrev pub is_whole : Setting → (page : Paper) → Bool
is_whole t page =
    (size t.grid == 1) && is_same page t.room.paper && has_bare_edges t.room && is_none t.scale && not t.grid.turned

-- the scale of pages of this paper, in 10^-9: what is asked for, or else the largest that fits (RULES, 13.3)
abbrev pub scale_on : Setting → (page : Paper) → ℕ
scale_on t page = scale_for t.scale (scale_in page t.room t.grid)

-- a page of this paper in cell k; on a sheet of its own paper it is left as it is (RULES, 13.4)
abbrev pub fitted : Setting → (page : Paper) → (k : ℕ) → Item
fitted t page k = if is_whole t page then page_alone k else item_in_cell page t.room t.grid t.order (scale_on t page) k

-- a page of this paper in cell k, as it stands if the whole sheet is turned by half; it is fitted into its cell on a sheet
-- of its own paper too
abbrev pub fitted_back : Setting → (page : Paper) → (k : ℕ) → Item
fitted_back t page k = back_in page t.room t.grid t.order (scale_on t page) 0 k

-- the cells that an arrangement comes to, if the grid is chosen for pages of this paper
abbrev pub setting_of : (page sheet : Paper) → Arrangement → Setting
setting_of page sheet a = let room = room_of sheet a.free in record {
  room = room;
  grid = grid_of page room a.order.turned a.cells;
  order = a.order;
  scale = a.scale;
}

-- the two halves of a sheet whose leaves are bound so
abbrev pub binding_setting_of : (sheet : Paper) → Binding → Setting
binding_setting_of sheet b = record {
  room = room_of sheet b.free;
  grid = beside true;
  order = leaf_order b.right_to_left;
  scale = b.scale;
}

-- the first reason why pages of this paper can't have their scale in these cells (RULES, 16, step 12)
abbrev pub why_no_scale_on : Setting → (page : Paper) → Option ArrangementError
why_no_scale_on t page =
    error_unless (is_paper_reached page && is_paper_reached t.room.paper) why.SideTooLong
    (error_unless (is_shown page t.room) why.NothingLeftOfPage
    (why_no_scale t.room (scale_on t page) (scale_in page t.room t.grid)))

-- why pages of this paper can't be in the cells of a setting
abbrev pub why_not_fitted : Setting → (page : Paper) → Option ArrangementError
why_not_fitted t page = if is_whole t page then None else why_no_scale_on t page

-- how far a page may reach past its cell: not at all; but by 10^-5 of a point if pages are trimmed, and on a sheet of its
-- own paper, whose sides needn't have a whole number of these
abbrev pub past_cell : Setting → (page : Paper) → ℕ
past_cell t page = if is_whole t page then 1 else kept_length t.room.trim 0

-- a page of this paper in cell k: on what the margins leave of the sheet, in its cell and in the middle of that, printed
-- exactly, and if no scale is asked for as large as the cell allows, to 10^-6
pub record IsFitted (t : Setting) (page : Paper) (k : ℕ) (item : Item) : Type 0 where
  pub inside : IsInside t.room page item
  pub in_cell : IsInCell t.room page (cell_at t.room t.grid (row_of t.order t.grid k) (column_of t.order t.grid k)) (past_cell t page) item
  pub middle : IsInMiddle page (cell_at t.room t.grid (row_of t.order t.grid k) (column_of t.order t.grid k)) item
  pub exact : IsExact page item
  pub scale : ℕ
  pub scale_is : item.scale ≡ pos scale
  pub large : (s : ℕ) → t.scale ≡ None → IsNotTiny page t.room → Allows page t.room t.grid s → s < scale + 1_000

-- a page that isn't refused is placed in this way: a law
abbrev pub FittedStands : Type 0
FittedStands =
    (t : Setting) (page : Paper) (k : ℕ) → IsPaper page → IsPaper t.room.paper → k < size t.grid
    → why_not_fitted t page ≡ None → IsFitted t page k (fitted t page k)

-- two pages in cells, whatever their papers, are as far apart as the gap, at least: a law
abbrev pub FittedIsApart : Type 0
FittedIsApart =
    (t : Setting) (page page' : Paper) (k l : ℕ) → IsPaper page → IsPaper page' → IsPaper t.room.paper
    → why_not_fitted t page ≡ None → why_not_fitted t page' ≡ None → k < size t.grid → l < size t.grid → k ≢ l
    → AreApart t.room page (fitted t page k) page' (fitted t page' l)

-- fitted pages are in order, as one reads the sheet: a law
abbrev pub FittedIsInOrder : Type 0
FittedIsInOrder =
    (t : Setting) (page page' : Paper) (k l : ℕ) → IsPaper page → IsPaper page' → IsPaper t.room.paper
    → why_not_fitted t page ≡ None → why_not_fitted t page' ≡ None → k < size t.grid → l < size t.grid
    → (let run = run_in t.order.run t.order.turned t.grid in
    (k % run < l % run
    → ComesInRun t.order.run t.room t.order.turned t.order.right_to_left page (fitted t page k) page' (fitted t page' l))
    × (k / run < l / run
    → ComesInRunBefore t.order.run t.room t.order.turned t.order.right_to_left page (fitted t page k) page' (fitted t page' l)))

-- pages of the paper for which a grid is chosen fit into its cells: a law
abbrev pub ArrangedIsFitted : Type 0
ArrangedIsFitted = (page sheet : Paper) (a : Arrangement) → why_not_arranged page sheet a ≡ None
    → why_not_fitted (setting_of page sheet a) page ≡ None

-- ---- leaves

-- whatever their papers, pages in the one half lie before a line across the sheet, and pages in the other beyond it, each
-- by half of the gap. It is one line for them all, twice as far up as said: the fold, in the middle of the sheet to 10^-5
-- of a point. If the sheet is turned by half, so is the fold
pub record HaveOneFold (t : Setting) (right_to_left : Bool) : Type 0 where
  pub twice : ℕ
  pub no_farther : twice ≤ whole_parts (nat_abs t.room.paper.height) + 1
  pub no_nearer : whole_parts (nat_abs t.room.paper.height) ≤ twice + 1
  pub before : (page : Paper) → IsPaper page → why_not_fitted t page ≡ None
      → LiesBefore t.room twice page (fitted t page (if right_to_left then 1 else 0))
  pub behind : (page : Paper) → IsPaper page → why_not_fitted t page ≡ None
      → LiesBehind t.room twice page (fitted t page (if right_to_left then 0 else 1))
  pub turned_behind : (page : Paper) → IsPaper page → why_not_fitted t page ≡ None
      → LiesBehind t.room (2 * whole_parts (nat_abs t.room.paper.height) - twice) page
      (fitted_back t page (if right_to_left then 1 else 0))
  pub turned_before : (page : Paper) → IsPaper page → why_not_fitted t page ≡ None
      → LiesBefore t.room (2 * whole_parts (nat_abs t.room.paper.height) - twice) page
      (fitted_back t page (if right_to_left then 0 else 1))

-- pages of the paper for which leaves are bound fit into their halves, and the fold is parallel to the shorter edge. If no scale
-- is asked for, no two of them side by side allow a scale that is larger by 10^-6: a law
abbrev pub BoundIsFitted : Type 0
BoundIsFitted = (page sheet : Paper) (b : Binding) → why_not_bound page sheet b ≡ None
    → (let t = binding_setting_of sheet b in
    (why_no_scale_on t page ≡ None) × (nat_abs sheet.width ≤ nat_abs sheet.height)
    × ((g : Grid) (s : ℕ) → b.scale ≡ None → IsNotTiny page t.room → g.rows ≡ 1 → g.columns ≡ 2 → Allows page t.room g s → s < scale_on t page + 1_000))
