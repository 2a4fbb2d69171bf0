-- What is written of a row, and why it is refused.
use Rattle.std.specs.Prelude.{◌≡◌, ℕ, Bool, true, false, ◌&&◌, List, length, map, Option, IsOk, Ok}
use Rattle.rules.specs.Parts.{pages}
use Rattle.rules.specs.Output.{Border, border_within}
use Rattle.rules.specs.Made.{MadeSheet}
use Rattle.rules.specs.MadePlans.{made_plan_of}
use Rattle.layouts.specs.Placed.{Room}
use Rattle.row_runs.specs.Turning.{turn_on, turned_sheet}
use Rattle.row_runs.specs.SwappedMargins.{swapped_room_in, swapped}
use Rattle.row_runs.specs.Reaching.{are_reached, is_changed}
use Rattle.sheet_plan.specs.MadeRefusals.{RefusesMade}
use Rattle.row_runs.specs.SheetsRuns.{reporting_output}
use Rattle.row_runs.specs.Sheets.{AreAsked, MayBeAsked, row_chosen}
use Rattle.row_runs.specs.Sheets as sheets
use Rattle.row_runs.specs.Marked.{strokes_in}
use Rattle.row_runs.specs.Numbers.{are_numbers_reached, numbers_asked}
use Rattle.dressing.specs.Numbered.{Drawn}
use Rattle.sheet_text.specs.declared.numbers.Numbers.{Numbers}
use Rattle.dressing.specs.declared.strokes.Stroke.{Stroke}
use Rattle.row_runs.specs.Standing.{StandAsLaid}
use Rattle.row_runs.specs.declared.run.RowJob.{RowJob}
use Rattle.row_runs.specs.declared.error.SheetError.{SheetError}
use Rattle.row_runs.specs.declared.error.SheetError.TheVariants as error

-- how many pages the document has
abbrev pub page_count : RowJob → ℕ
page_count j = length (pages j.document.now)

-- the room that is exchanged on backs, if that is asked for
abbrev pub swapped_room_for : RowJob → Option Room
swapped_room_for j = swapped_room_in j.swapped j.asked.laying

-- sheets with left and right exchanged on backs, and with their pages turned, as is asked for
abbrev pub turned_on : RowJob → List MadeSheet → List MadeSheet
turned_on j laid = map (turned_sheet (turn_on j.turns.now)) (swapped (swapped_room_for j) laid)

-- each page that is laid so can be written once it is moved and turned
abbrev pub are_laid_in_reach : RowJob → (laid : List MadeSheet) → Bool
are_laid_in_reach j laid = are_reached (turn_on j.turns.now) (swapped_room_for j) laid

-- pages are turned, or moved on backs: as they are laid, each has its place within reach
abbrev pub are_changed : RowJob → Bool
are_changed j = is_changed j.turns.now (swapped_room_for j)

-- each number of a page is within reach once it is moved
abbrev pub have_numbers_in_reach : RowJob → Bool
have_numbers_in_reach j = are_numbers_reached (page_count j) j.papers.now j.asked (swapped_room_for j) j.marks.numbers

-- these sheets are asked for, with pages of the papers that they have once they are turned, which lie as they are to be
-- laid; then backs are moved, and pages turned, which brings none out of reach
pub record AreTurned (j : RowJob) (made : List MadeSheet) : Type 0 where
  pub may : MayBeAsked j.asked
  pub laid : List MadeSheet
  pub asked : AreAsked (page_count j) j.papers.now j.asked laid
  pub stand : StandAsLaid j.asked.laying laid
  pub reached : are_laid_in_reach j laid ≡ true
  pub turned : made ≡ turned_on j laid

-- the sheets that are asked for, moved and turned, which can be planned
pub record ArePlanned (j : RowJob) (made : List MadeSheet) : Type 0 where
  pub are : AreTurned j made
  pub planned : made_plan_of (page_count j) made ≡ Ok made

-- the strokes on each of them, of the marks that are asked for
abbrev pub strokes_on : RowJob → List Stroke
strokes_on j = strokes_in j.marks j.asked.laying

-- the numbers of the pages, moved on backs as the pages are
abbrev pub numbers_on : RowJob → Option Numbers
numbers_on j = numbers_asked (page_count j) j.papers.now j.asked (swapped_room_for j) j.marks.numbers

-- all that is drawn on them
abbrev pub drawn_of : RowJob → Drawn
drawn_of j = record { strokes = strokes_on j; numbers = numbers_on j }

-- the border that each page has, if there is one
abbrev pub border_on : RowJob → Option Border
border_on j = border_within j.inset j.border

-- the output of such sheets
abbrev pub output_on : RowJob → List MadeSheet → List ℕ
output_on j made = reporting_output (border_on j) (drawn_of j) made j.document.now

-- a refusal names the first fault: of the row; if there is one, of a page in its cell or as a poster; if its pages have their places, of
-- the sheets, or that a page that is turned or moved, or its number, would come out of reach. Out of memory comes after the
-- checks of the row
abbrev pub RefusesRun : RowJob → SheetError → Type 0
RefusesRun j (error.Row e) = sheets.RefusesAsked (page_count j) j.papers.now j.asked (error.Row e)
RefusesRun j (error.Arrangement e) = sheets.RefusesAsked (page_count j) j.papers.now j.asked (error.Arrangement e)
RefusesRun j (error.Poster e) = sheets.RefusesAsked (page_count j) j.papers.now j.asked (error.Poster e)
RefusesRun j (error.Sheets e) =
    (laid : List MadeSheet) × AreAsked (page_count j) j.papers.now j.asked laid × RefusesMade (page_count j) (turned_on j laid) e
RefusesRun j error.OutOfReach = (are_changed j ≡ true) × (laid : List MadeSheet) × AreAsked (page_count j) j.papers.now j.asked laid
    × ((are_laid_in_reach j laid && have_numbers_in_reach j) ≡ false)
RefusesRun j error.NoMemory = IsOk (row_chosen (page_count j) j.asked)
