-- What the errors of the parts are called here.
use Rattle.rows.specs.declared.error.RowError.{RowError}
use Rattle.rows.specs.declared.error.RowError.TheVariants as row
use Rattle.layouts.specs.declared.error.ArrangementError.{ArrangementError}
use Rattle.layouts.specs.declared.error.ArrangementError.TheVariants as arrangement
use Rattle.row_sheets.specs.declared.poster.PosterError.{PosterError}
use Rattle.row_sheets.specs.declared.poster.PosterError.TheVariants as poster
use Rattle.sheet_plan.specs.declared.error.MadeError.{MadeError}
use Rattle.sheet_plan.specs.declared.error.MadeError.TheVariants as plan
use Rattle.row_runs.specs.declared.error.SheetError.{SheetError}
use Rattle.row_runs.specs.declared.error.SheetError.TheVariants as error

abbrev pub of_row : RowError → SheetError
of_row row.NoMemory = error.NoMemory
of_row other = error.Row other

abbrev pub of_arrangement : ArrangementError → SheetError
of_arrangement arrangement.NoMemory = error.NoMemory
of_arrangement other = error.Arrangement other

abbrev pub of_poster : PosterError → SheetError
of_poster poster.NoMemory = error.NoMemory
of_poster other = error.Poster other

abbrev pub of_made_plan : MadeError → SheetError
of_made_plan plan.NoMemory = error.NoMemory
of_made_plan other = error.Sheets other
