-- Rows that may be laid in the cells that their layout asks for.
use Rattle.std.specs.Prelude.{◌==◌, if◌then◌else◌}
use Rattle.std.proofs.Common.{arith, ◌≡◌, ℕ, zero, suc, ◌<◌, ◌≤◌, Bool, true, false, Option, Some, None, subst, sym}
use Rattle.rules.specs.Papers.{Paper}
use Rattle.layouts.specs.Cells.{size}
use Rattle.layouts.specs.Fitted.{setting_of}
use Rattle.layouts.specs.Grids.{cells_per_sheet}
use Rattle.layouts.specs.Refusals.{error_unless, is_count, why_not_arranged}
use Rattle.layouts.specs.declared.arrangement.Arrangement.{Arrangement}
use Rattle.layouts.specs.declared.error.ArrangementError.{ArrangementError}
use Rattle.layouts.specs.declared.error.ArrangementError.TheVariants.{CellsOutOfRange}
use Rattle.layouts.specs.declared.setting.Setting.{Setting}
use Rattle.row_runs.specs.Sheets.{MayBeLaid}
use Rattle.row_runs.specs.declared.sheet_request.Laying.TheVariants as laying
use Rattle.row_sheets.specs.declared.fill.Scheme.TheVariants as scheme
use Rattle.impose_words.specs.Spacings.{arrangement_in}
use Rattle.impose_words.specs.declared.request.Layout.{Layout}
use Rattle.impose_words.specs.declared.request.Layout.TheVariants as layout
use Rattle.impose_words.specs.declared.request.Spacing.{Spacing}
use Rattle.impose_cli.specs.RowTasks.{cells_of_layout, filled_in, is_even_enough}
use Rattle.impose_cli.proofs.ZineCells.{are_zine_cells}

some_reason : (e : ArrangementError) → Some e ≡ None → ⊥
some_reason e h = cc

some_cells : (n : ℕ) (next : Option ArrangementError) → error_unless (is_count n) CellsOutOfRange next ≡ None → 0 < n
some_cells zero next h = absurd (some_reason CellsOutOfRange h)
some_cells (suc n) next h = omega arith

-- cards have the same cells where they begin on a sheet that is used in part
begun_or_not : (is_whole : Bool) (t : Setting) (n : ℕ) → 0 < n → n ≤ size t.grid → MayBeLaid (laying.InCells t (if is_whole then scheme.Cards n else scheme.Grid n))
begun_or_not true t n there enough = (there, enough)
begun_or_not false t n there enough = (there, enough)

-- of a sheet's cells, which are enough; those for pages are half of them, beside notes
filled : (l : Layout) (s : Spacing) (page sheet : Paper) → is_even_enough l s.free ≡ true → 0 < cells_per_sheet (cells_of_layout l s).cells
    → cells_per_sheet (cells_of_layout l s).cells ≤ size (setting_of page sheet (cells_of_layout l s)).grid → MayBeLaid (filled_in l s (cells_of_layout l s) page sheet)
filled (layout.Cards cells) s page sheet even there enough =
    begun_or_not (s.skipped == 0) (setting_of page sheet (arrangement_in s cells)) (cells_per_sheet cells) there enough
filled (layout.Stack cells true) s page sheet even there enough = tt
filled (layout.Stack cells false) s page sheet even there enough = (there, enough)
filled (layout.Notes pages) s page sheet even there enough = (omega (arith, there), omega (arith, enough))
filled layout.Zine s page sheet even there enough = are_zine_cells page sheet s even
filled other s page sheet even there enough = (there, enough)

pub may_be_filled : (l : Layout) (s : Spacing) (page sheet : Paper) (a : Arrangement) → a ≡ cells_of_layout l s → is_even_enough l s.free ≡ true
    → why_not_arranged page sheet a ≡ None → cells_per_sheet a.cells ≤ size (setting_of page sheet a).grid → MayBeLaid (filled_in l s a page sheet)
may_be_filled l s page sheet a is even possible enough =
    subst (λ (x : Arrangement). 0 < cells_per_sheet x.cells → cells_per_sheet x.cells ≤ size (setting_of page sheet x).grid → MayBeLaid (filled_in l s x page sheet)) (sym is)
    (filled l s page sheet even) (some_cells (cells_per_sheet a.cells) _ possible) enough
