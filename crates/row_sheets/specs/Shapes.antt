-- How rows are put into cells, and why they can't be. All here is this project's own rules.
use Rattle.std.specs.Prelude.{ℕ, ◌+◌, ◌*◌, ◌%◌, ◌==◌, if◌then◌else◌, List, length, slice_index_or, Option, Some, None}
use Rattle.rules.specs.Papers.{Paper}
use Rattle.rules.specs.Sheets.{blocks}
use Rattle.rules.specs.Signatures.{entry_of}
use Rattle.rules.specs.Rows.{Row}
use Rattle.layouts.specs.declared.error.ArrangementError.{ArrangementError}
use Rattle.layouts.specs.declared.setting.Setting.{Setting}
use Rattle.layouts.specs.Cells.{size}
use Rattle.layouts.specs.Fitted.{why_not_fitted}
use Rattle.row_sheets.specs.declared.fill.Scheme.{Scheme}
use Rattle.row_sheets.specs.declared.fill.Scheme.TheVariants as scheme
use Rattle.row_sheets.specs.declared.fill.Shape.{Shape}
use Rattle.row_sheets.specs.Filled.{Filling, behind_in, zine_place}
use Rattle.row_sheets.specs.FirstFault.{first_fault}

-- the cells of a sheet, and the papers of the pages in their order; a page whose paper isn't known has the sheet's
abbrev pub filling : Setting → List Paper → Filling
filling t papers = record { setting = t; paper_of = λ page. slice_index_or papers page t.room.paper }

-- the cell on a front, and on a back the one that is behind it
abbrev pub cell_on : Setting → (s c : ℕ) → ℕ
cell_on t s c = if s % 2 == 0 then c else behind_in t c

-- how many cells sheets have
abbrev pub cell_count : Scheme → Setting → ℕ
cell_count (scheme.Grid cells) t = cells
cell_count (scheme.Cards cells) t = cells
cell_count (scheme.Stack cells) t = cells
cell_count scheme.Leaves t = size t.grid
cell_count (scheme.Booklet turned_backs creep) t = 2
cell_count scheme.Zine t = 8

-- how many sheets n entries take
abbrev pub sheet_count : Scheme → (cells n : ℕ) → ℕ
sheet_count (scheme.Cards some) cells n = n
sheet_count scheme.Leaves cells n = 2 * blocks (2 * cells) n
sheet_count other cells n = blocks cells n

-- which entry of the row is in cell c of sheet s (RULES, 14)
abbrev pub place_by : Scheme → Setting → (sheets cells s c : ℕ) → ℕ
place_by (scheme.Grid some) t sheets cells s c = s * cells + c
place_by (scheme.Cards some) t sheets cells s c = s
place_by (scheme.Stack some) t sheets cells s c = c * sheets + s
place_by scheme.Leaves t sheets cells s c = cell_on t s c * sheets + s
place_by (scheme.Booklet turned_backs creep) t sheets cells s c = s * 2 + c
place_by scheme.Zine t sheets cells s c = s * cells + zine_place c

abbrev pub shape_place : Shape → Setting → (s c : ℕ) → ℕ
shape_place h t s c = place_by h.scheme t h.sheets h.cells s c

abbrev pub entry_in_cell : Shape → Setting → Row → (s c : ℕ) → Option ℕ
entry_in_cell h t row s c = entry_of row (shape_place h t s c)

-- why an entry can't lie in a cell, if it can't
abbrev pub why_no_place : Filling → (entry : Option ℕ) → Option ArrangementError
why_no_place f None = None
why_no_place f (Some page) = why_not_fitted f.setting (f.paper_of page)

-- the reason for the first page of the row that can't lie in a cell, whatever sheet it is on (RULES, 16, step 12)
abbrev pub first_refused : Filling → Row → Option ArrangementError
first_refused f row = first_fault (λ i. why_no_place f (entry_of row i)) (length row)
