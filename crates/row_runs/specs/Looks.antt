-- What is shown of sheets before they are imposed.
use Rattle.std.specs.Prelude.{◌≡◌, ℕ, List}
use Rattle.rules.specs.Made.{MadeSheet}
use Rattle.preview.specs.Listing.{plan_text}
use Rattle.row_runs.specs.Readings.{reading_in}
use Rattle.row_runs.specs.Runs.{ArePlanned, swapped_room_for}
use Rattle.row_runs.specs.declared.run.RowJob.{RowJob}

-- the text of the plan of the sheets that a run would impose, as they are read
pub record IsPlanText (j : RowJob) (most : ℕ) (text : List ℕ) : Type 0 where
  pub made : List MadeSheet
  pub planned : ArePlanned j made
  pub told : text ≡ plan_text (reading_in (swapped_room_for j) j.asked.laying) most made

-- there are sheets that a run would impose
abbrev pub HavePlan : RowJob → Type 0
HavePlan j = (made : List MadeSheet) × ArePlanned j made
