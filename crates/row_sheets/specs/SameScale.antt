-- One scale for all pages of a row: that of the largest paper. All here is this project's own rules.
use Rattle.std.specs.Prelude.{◌≡◌, ℕ, ◌<◌, ◌≤◌, ℤ, pos, length, Option, Some, None}
use Rattle.std.specs.Int.{int_min}
use Rattle.std.specs.List.{fold}
use Rattle.rules.specs.Papers.{Paper}
use Rattle.rules.specs.Signatures.{entry_of}
use Rattle.rules.specs.Rows.{Row}
use Rattle.layouts.specs.declared.error.ArrangementError.{ArrangementError}
use Rattle.layouts.specs.declared.setting.Setting.{Setting}
use Rattle.layouts.specs.Cells.{size}
use Rattle.layouts.specs.Fitted.{IsFitted, fitted, scale_on, why_no_scale_on}
use Rattle.layouts.specs.Laws.{IsPaper}
use Rattle.row_sheets.specs.Filled.{Filling}
use Rattle.row_sheets.specs.FirstFault.{first_fault}

-- the scale of a page, by its own paper
abbrev pub own_scale : Filling → (page : ℕ) → ℕ
own_scale f page = scale_on f.setting (f.paper_of page)

-- the least scale so far, and that with one more entry
abbrev pub least_with : Filling → (least : Option ℤ) → (entry : Option ℕ) → Option ℤ
least_with f least None = least
least_with f None (Some page) = Some (pos (own_scale f page))
least_with f (Some least) (Some page) = Some (int_min least (pos (own_scale f page)))

-- the least of the scales of a row's pages, which is that of the largest paper; none if the row has no page
-- (RULES, 13.3)
abbrev pub least_scale : Filling → Row → Option ℤ
least_scale f row = fold (least_with f) None row

-- the cells, with that scale for all pages
abbrev pub at_one_scale : Filling → Row → Setting
at_one_scale f row = record {
  room = f.setting.room;
  grid = f.setting.grid;
  order = f.setting.order;
  scale = least_scale f row;
}

-- why an entry has no scale of its own, if it has none
abbrev pub why_no_own_scale : Filling → (entry : Option ℕ) → Option ArrangementError
why_no_own_scale f None = None
why_no_own_scale f (Some page) = why_no_scale_on f.setting (f.paper_of page)

-- the reason for the first page of the row without a scale of its own
abbrev pub first_unscaled : Filling → Row → Option ArrangementError
first_unscaled f row = first_fault (λ i. why_no_own_scale f (entry_of row i)) (length row)

-- ---- laws

-- all pages have this scale; it is the own scale of a page of the row, and none of its pages has a smaller one
pub record IsOneScale (f : Filling) (row : Row) (scale : ℕ) : Type 0 where
  pub all : (paper : Paper) → scale_on (at_one_scale f row) paper ≡ scale
  pub place : ℕ
  pub page : ℕ
  pub is_there : entry_of row place ≡ Some page
  pub is_own : own_scale f page ≡ scale
  pub least : (i p : ℕ) → entry_of row i ≡ Some p → scale ≤ own_scale f p

-- a row with a page has one scale
abbrev pub HaveOneScale : Type 0
HaveOneScale = (f : Filling) (row : Row) (i page : ℕ) → entry_of row i ≡ Some page → (scale : ℕ) × IsOneScale f row scale

-- all pages of the row have scales of their own
abbrev pub HaveScales : Filling → Row → Type 0
HaveScales f row = (i page : ℕ) → entry_of row i ≡ Some page → why_no_scale_on f.setting (f.paper_of page) ≡ None

-- then at the one scale each still lies in its cell: on what the margin leaves of the sheet, and in the cell's middle
abbrev pub OneScaleStands : Type 0
OneScaleStands = (f : Filling) (row : Row) (i page k : ℕ) → IsPaper f.setting.room.paper → IsPaper (f.paper_of page)
    → HaveScales f row → entry_of row i ≡ Some page → k < size f.setting.grid
    → IsFitted (at_one_scale f row) (f.paper_of page) k (fitted (at_one_scale f row) (f.paper_of page) k)
