-- What a refusal says of what was asked for, of a run, and of its sheets.
use Rattle.std.proofs.Common.{◌≡◌, ℕ, List, refl, sym, subst}
use Rattle.std.specs.Prelude.{IsOk}
use Rattle.row_runs.specs.declared.error.SheetError.{SheetError}
use Rattle.row_runs.specs.declared.error.SheetError.TheVariants as error
use Rattle.row_runs.specs.declared.run.RowJob.{RowJob}
use Rattle.row_runs.specs.Errors.{of_made_plan}
use Rattle.row_runs.specs.Runs.{AreTurned, RefusesRun, swapped_room_for, page_count}
use Rattle.rules.specs.Made.{MadeSheet}
use Rattle.row_runs.specs.Turning.{turn_on}
use Rattle.sheet_plan.specs.MadeRefusals.{RefusesMade}
use Rattle.sheet_plan.specs.declared.error.MadeError.{MadeError}
use Rattle.sheet_plan.specs.declared.error.MadeError.TheVariants as plan
use Rattle.row_runs.proofs.Turned.{turned_refused}
use Rattle.row_runs.specs.Sheets.{RefusesAsked}

of_asked : (j : RowJob) (e : SheetError) → RefusesAsked (page_count j) j.papers.now j.asked e → RefusesRun j e
of_asked j (error.Sheets e) h = (h.0, h.1, turned_refused (turn_on j.turns.now) (swapped_room_for j) (page_count j) h.0 e h.3)
of_asked j error.OutOfReach h = absurd h
of_asked j other h = h

-- a run that makes no sheets
pub run_refused : (j : RowJob) (n : ℕ) (e : SheetError) → n ≡ page_count j → RefusesAsked n j.papers.now j.asked e → RefusesRun j e
run_refused j n e is h = of_asked j e (subst (λ (k : ℕ). RefusesAsked k j.papers.now j.asked e) is h)

-- what holds of each fault of a plan, and if memory runs out, holds of what an error of the plan is called
of_plan_holds : (P : SheetError → Type 0) (R : MadeError → Type 0) (e : MadeError) → ((m : MadeError) → R m → P (error.Sheets m)) → P error.NoMemory → R e → P (of_made_plan e)
of_plan_holds P R plan.NoMemory fault spent h = spent
of_plan_holds P R plan.TooManyPages fault spent h = fault plan.TooManyPages h
of_plan_holds P R plan.TooManySheets fault spent h = fault plan.TooManySheets h
of_plan_holds P R (plan.SlotsOutOfRange sheet) fault spent h = fault (plan.SlotsOutOfRange sheet) h
of_plan_holds P R plan.TooManyPlaces fault spent h = fault plan.TooManyPlaces h
of_plan_holds P R (plan.NoSuchPage sheet) fault spent h = fault (plan.NoSuchPage sheet) h

-- sheets that are asked for, and can't be planned
pub sheets_refused : (j : RowJob) (made : List MadeSheet) (e : MadeError) → AreTurned j made → RefusesMade (page_count j) made e → RefusesRun j (of_made_plan e)
sheets_refused j made e are h =
    of_plan_holds (RefusesRun j) (RefusesMade (page_count j) made) e
    (λ m refused. (are.laid, are.asked, subst (λ all. RefusesMade (page_count j) all m) are.turned refused)) (subst IsOk (sym are.asked.is_chosen) refl) h
