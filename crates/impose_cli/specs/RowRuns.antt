-- What a run on the sheets of a row writes and reports.
use Rattle.std.specs.Prelude.{◌≡◌, ℕ, ◌≤◌, Bool, true, false, List, length, Option, None}
use Rattle.std.specs.Io.KnownBytes.{Appends}
use Rattle.rules.specs.Parts.{NestedUnit, pages}
use Rattle.rules.specs.Output.{Border}
use Rattle.rules.specs.Made.{MadeSheet}
use Rattle.rules.specs.MadePlans.{made_layout}
use Rattle.sheet_plan.specs.Places.{born_complete}
use Rattle.dressing.specs.Numbered.{Drawn}
use Rattle.imposer.specs.declared.outcome.Report.{Report}
use Rattle.impose_messages.specs.Scales.{scales_of}
use Rattle.impose_messages.specs.declared.finished.SheetFacts.{SheetFacts}
use Rattle.row_runs.specs.SheetsRuns.{reporting_output}
use Rattle.row_runs.specs.Readings.{sides_by}
use Rattle.row_runs.specs.Runs.{ArePlanned, border_on, drawn_of, output_on, swapped_room_for}
use Rattle.row_runs.specs.declared.run.RowJob.{RowJob}
use Rattle.row_runs.specs.declared.sheet_request.Laying.{Laying}
use Rattle.row_runs.specs.declared.sheet_request.Laying.TheVariants as laying
use Rattle.impose_messages.specs.declared.finished.Lying.{Lying}
use Rattle.impose_cli.specs.Lying.{lying_among}

-- the numbers of a report
pub record ReportsOn (border : Option Border) (drawn : Drawn) (all : List MadeSheet) (us : List NestedUnit) (report : Report)
    : Type 0 where
  pub page_count : report.pages ≡ length (pages us)
  pub sheet_count : report.sheets ≡ length all
  pub born_blank : report.born ≡ length (born_complete (made_layout (length (pages us)) all))
  pub swept_within : report.swept ≤ report.sheets
  pub byte_count : report.bytes ≡ length (reporting_output border drawn all us)

-- the first page that lies so on sheets that are made by a specification
abbrev pub lying_by : Laying → (wholly : Bool) → List MadeSheet → Option Lying
lying_by (laying.BySpec spec sheet page) wholly made = lying_among wholly made
lying_by other wholly made = None

-- exactly the output of the sheets that are asked for was appended, and the report has its numbers; the scales are those of the pages on
-- these sheets, which are printed on these sides; and pages that aren't wholly on theirs. StandAsLaid says how pages lie before they are moved and turned
pub record Imposes (j : RowJob) (sheets : SheetFacts) (old new : Option (List ℕ)) (done : Report) : Type 0 where
  pub made : List MadeSheet
  pub planned : ArePlanned j made
  pub written : Appends old new (output_on j made)
  pub report : ReportsOn (border_on j) (drawn_of j) made j.document.now done
  pub scaled : sheets.scales ≡ scales_of made
  pub sides : sheets.sides ≡ sides_by (swapped_room_for j) j.asked.laying
  pub beside : sheets.beside ≡ lying_by j.asked.laying true made
  pub over : sheets.over ≡ lying_by j.asked.laying false made
