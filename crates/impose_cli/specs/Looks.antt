-- What is reported of a request in place of carrying it out: the plan of its sheets, or a drawing of them.
use Rattle.std.specs.Prelude.{ℕ, List}
use Rattle.row_runs.specs.Looks.{HavePlan, IsPlanText}
use Rattle.row_runs.specs.declared.run.RowJob.{RowJob}
use Rattle.impose_cli.specs.RowTasks.{IsJobOf, IsRowTask}
use Rattle.impose_cli.specs.declared.look.Overview.{Overview}
use Rattle.impose_cli.specs.declared.look.Overview.TheVariants.{Plan, Picture}
use Rattle.impose_words.specs.declared.request.ImposeRequest.{ImposeRequest}
use Rattle.impose_cli.specs.declared.row_task.RowTask.{RowTask}

-- how many sheets or leaves are listed, or sheets drawn (RULES, 17)
abbrev pub most_listed : ℕ
most_listed = 40

-- the text is the plan of the sheets that the run of this job would impose; of a drawing only that there are such sheets
abbrev pub IsOverviewText : Overview → RowJob → (text : List ℕ) → Type 0
IsOverviewText Plan job text = IsPlanText job most_listed text
IsOverviewText Picture job text = HavePlan job

abbrev pub IsTaskText : ImposeRequest → RowTask → Overview → (text : List ℕ) → Type 0
IsTaskText r t look text = (job : RowJob) × IsJobOf r t job × IsOverviewText look job text

-- the text reports on the sheets on which the layout of the request lays its row of this document
abbrev pub IsRowText : ImposeRequest → (input : List ℕ) → Overview → (text : List ℕ) → Type 0
IsRowText r input look text = (t : RowTask) × IsRowTask r input t × IsTaskText r t look text
