-- Layings with one scale for all pages of a row.
use Rattle.std.specs.Prelude.{Bool, true, List, Option, None}
use Rattle.rules.specs.Papers.{Paper}
use Rattle.rules.specs.Rows.{Row}
use Rattle.layouts.specs.declared.error.ArrangementError.{ArrangementError}
use Rattle.row_sheets.specs.Shapes.{filling}
use Rattle.row_sheets.specs.SameScale.{at_one_scale, first_unscaled}
use Rattle.row_runs.specs.declared.sheet_request.Laying.{Laying}
use Rattle.row_runs.specs.declared.sheet_request.Laying.TheVariants as laying

-- all pages of the row have one scale in the cells, if that is asked for; entries that are laid as they are, and posters, keep
-- theirs (RULES, 13.3)
abbrev pub at_common_scale : (same_scale : Bool) → Laying → List Paper → Row → Laying
at_common_scale true (laying.InCells t how) papers row = laying.InCells (at_one_scale (filling t papers) row) how
at_common_scale same_scale other papers row = other

-- why they can't: the first page that has no scale of its own
abbrev pub why_not_even_if : (same_scale : Bool) → Laying → List Paper → Row → Option ArrangementError
why_not_even_if true (laying.InCells t how) papers row = first_unscaled (filling t papers) row
why_not_even_if same_scale other papers row = None
