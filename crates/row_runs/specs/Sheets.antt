-- The sheets that are asked for.
use Rattle.std.specs.Prelude.{◌≡◌, ⊤, ℕ, ◌*◌, ◌/◌, ◌≤◌, List, length, IsOk, IfSome, Option, Some, None, Ok, Result, option_map}
use Rattle.std.specs.Option.{option_or}
use Rattle.rules.specs.Papers.{Paper}
use Rattle.rules.specs.Run.{most_pages}
use Rattle.rules.specs.Made.{MadeSheet}
use Rattle.rules.specs.Rows.{Row}
use Rattle.rules.specs.Choice.{RowFault, Signing, sides_for}
use Rattle.rows.specs.Printed.{asked_by, printed_row, row_read}
use Rattle.rows.specs.Sewing.{MayBeSewn}
use Rattle.rows.specs.Refusals.{RefusesRow}
use Rattle.row_sheets.specs.BySpec.{by_spec}
use Rattle.row_sheets.specs.RowSheets.{selected}
use Rattle.row_sheets.specs.Schemes.{FitBy, MayBeFilled, sheets_by_scheme, why_not_in}
use Rattle.row_sheets.specs.Shapes.{filling}
use Rattle.row_sheets.specs.Posters.{AllMayBePosters, first_no_poster, most_tiles, row_tiles}
use Rattle.sheet_plan.specs.MadeRefusals.{RefusesMade}
use Rattle.sheet_plan.specs.declared.error.MadeError.{MadeError}
use Rattle.row_runs.specs.Evened.{at_common_scale, why_not_even_if}
use Rattle.row_runs.specs.Limits.{IsLimit}
use Rattle.row_runs.specs.declared.sheet_request.SheetRequest.{SheetRequest}
use Rattle.row_runs.specs.declared.sheet_request.Laying.{Laying}
use Rattle.row_runs.specs.declared.sheet_request.Laying.TheVariants as laying
use Rattle.row_runs.specs.declared.error.SheetError.{SheetError}
use Rattle.row_runs.specs.declared.error.SheetError.TheVariants as error

-- the cells of a way of laying may be filled; a poster has no more sheets than it may have, and no wider margins; a specification may be any
abbrev pub MayBeLaid : Laying → Type 0
MayBeLaid (laying.AsTheyAre blank) = ⊤
MayBeLaid (laying.InCells t how) = MayBeFilled how t
MayBeLaid (laying.Poster poster) = (poster.rows * poster.columns ≤ most_tiles) × (poster.edge ≤ 10_000_000_000)
MayBeLaid (laying.BySpec spec sheet page) = ⊤

-- sheets may be asked for: they may be laid, and a signature may have its number of sides
pub record MayBeAsked (a : SheetRequest) : Type 0 where
  pub laid : MayBeLaid a.laying
  pub sewn : IfSome a.row.signing MayBeSewn

-- ---- how a row is laid

-- how many leaves a signature of a row has; none if it isn't put into signatures
abbrev pub leaves_in : Option Signing → Row → ℕ
leaves_in None row = 0
leaves_in (Some how) row = sides_for how (length row) / 4

-- a row of pages with these papers, laid on sheets; by a specification all pages have one paper
abbrev pub sheets_laid : Laying → (leaves : ℕ) → List Paper → Row → List MadeSheet
sheets_laid (laying.AsTheyAre blank) leaves papers row = selected papers blank row
sheets_laid (laying.InCells t how) leaves papers row = sheets_by_scheme how (filling t papers) leaves row
sheets_laid (laying.Poster poster) leaves papers row = row_tiles poster papers row
sheets_laid (laying.BySpec spec sheet page) leaves papers row = by_spec spec.now sheet page row

-- why it can't be laid so: a page that doesn't fit its cell, or the first one that can't be a poster
abbrev pub why_not_laid : Laying → (leaves : ℕ) → List Paper → Row → Option SheetError
why_not_laid (laying.AsTheyAre blank) leaves papers row = None
why_not_laid (laying.InCells t how) leaves papers row = option_map error.Arrangement (why_not_in how (filling t papers) leaves row)
why_not_laid (laying.Poster poster) leaves papers row = option_map error.Poster (first_no_poster poster papers row)
why_not_laid (laying.BySpec spec sheet page) leaves papers row = None

-- each page of the row has its place, laid so: for none of them there is such a reason
abbrev pub FitAsLaid : Laying → (leaves : ℕ) → List Paper → Row → Type 0
FitAsLaid (laying.AsTheyAre blank) leaves papers row = ⊤
FitAsLaid (laying.InCells t how) leaves papers row = FitBy how (filling t papers) leaves row
FitAsLaid (laying.Poster poster) leaves papers row = AllMayBePosters poster papers row
FitAsLaid (laying.BySpec spec sheet page) leaves papers row = ⊤

-- the sheets that it comes to pass a limit: of so few pages they are no plan, and this is their first fault
abbrev pub WhyNoPlan : Laying → (leaves : ℕ) → List Paper → Row → MadeError → Type 0
WhyNoPlan l leaves papers row e = (pages : ℕ) → pages ≤ most_pages → RefusesMade pages (sheets_laid l leaves papers row) e

-- a refusal says why; a limit that is passed, only if all pages have their places
abbrev pub RefusesLaying : Laying → (leaves : ℕ) → List Paper → Row → SheetError → Type 0
RefusesLaying l leaves papers row (error.Arrangement e) = why_not_laid l leaves papers row ≡ Some (error.Arrangement e)
RefusesLaying l leaves papers row (error.Poster e) = why_not_laid l leaves papers row ≡ Some (error.Poster e)
RefusesLaying l leaves papers row error.OutOfReach = ⊥
RefusesLaying l leaves papers row error.NoMemory = ⊤
RefusesLaying l leaves papers row (error.Row e) = ⊥
RefusesLaying l leaves papers row (error.Sheets e) =
    FitAsLaid l leaves papers row × IsLimit l (length row) e × WhyNoPlan l leaves papers row e

-- ---- what is asked for

-- how the row is put into signatures, if it is
abbrev pub sewn : SheetRequest → Option Signing
sewn a = (asked_by a.row).signing

-- the row that is asked for, of a document with so many pages, or its fault
abbrev pub row_chosen : (pages : ℕ) → SheetRequest → Result Row RowFault
row_chosen pages a = row_read pages (asked_by a.row)

-- the row as it is laid
abbrev pub row_printed : SheetRequest → Row → Row
row_printed a row = printed_row (asked_by a.row) row

-- how the row that is chosen is laid: at one scale if that is asked for
abbrev pub laying_for : SheetRequest → List Paper → Row → Laying
laying_for a papers row = at_common_scale a.same_scale a.laying papers (row_printed a row)

-- why a page is refused: the first that has no scale of its own, if there is to be one for all, or else the first that
-- has no place as it is laid (RULES, 16, step 12)
abbrev pub why_not_asked : List Paper → SheetRequest → Row → Option SheetError
why_not_asked papers a row = let printed = row_printed a row in
    option_or (option_map error.Arrangement (why_not_even_if a.same_scale a.laying papers printed))
    (why_not_laid (laying_for a papers row) (leaves_in (sewn a) row) papers printed)

-- the sheets that are asked for: the row that is chosen, in signatures if there are to be some, laid as is asked, with
-- no page of it refused
pub record AreAsked (pages : ℕ) (papers : List Paper) (a : SheetRequest) (made : List MadeSheet) : Type 0 where
  pub row : Row
  pub is_chosen : row_chosen pages a ≡ Ok row
  pub are_laid : made ≡ sheets_laid (laying_for a papers row) (leaves_in (sewn a) row) papers (row_printed a row)
  pub fits : FitAsLaid (laying_for a papers row) (leaves_in (sewn a) row) papers (row_printed a row)
  pub accepted : why_not_asked papers a row ≡ None

-- a refusal names the fault of the row; or, if there is one, why a page of it is refused; or, if none is, the limit that the
-- sheets pass that are asked for (RULES, 16, steps 11 to 13)
abbrev pub RefusesAsked : (pages : ℕ) → List Paper → SheetRequest → SheetError → Type 0
RefusesAsked pages papers a (error.Row e) = RefusesRow (row_chosen pages a) e
RefusesAsked pages papers a (error.Arrangement e) =
    (row : Row) × (row_chosen pages a ≡ Ok row) × (why_not_asked papers a row ≡ Some (error.Arrangement e))
RefusesAsked pages papers a (error.Poster e) =
    (row : Row) × (row_chosen pages a ≡ Ok row) × (why_not_asked papers a row ≡ Some (error.Poster e))
RefusesAsked pages papers a (error.Sheets e) = (made : List MadeSheet) × (asked : AreAsked pages papers a made)
    × IsLimit (laying_for a papers asked.row) (length (row_printed a asked.row)) e × RefusesMade pages made e
RefusesAsked pages papers a error.OutOfReach = ⊥
RefusesAsked pages papers a error.NoMemory = IsOk (row_chosen pages a)
