-- The exit statuses of a run's errors: 1 if what was asked for is refused, 2 if the options are, 3 if memory ran out or a
-- write failed.
use Rattle.std.specs.Prelude.{ℕ}
use Rattle.pagespec.specs.declared.error.SpecError.{SpecError}
use Rattle.pagespec.specs.declared.error.SpecError.TheVariants as spec
use Rattle.dsc.specs.declared.errors.DscError.{DscError}
use Rattle.dsc.specs.declared.errors.DscError.TheVariants as document
use Rattle.sheet_plan.specs.declared.error.PlanError.{PlanError}
use Rattle.sheet_plan.specs.declared.error.PlanError.TheVariants as plan
use Rattle.imposer.specs.declared.outcome.RunError.{RunError}
use Rattle.imposer.specs.declared.outcome.RunError.TheVariants as run

abbrev pub spec_status : SpecError → ℕ
spec_status spec.NoMemory = 3
spec_status _ = 1

abbrev pub document_status : DscError → ℕ
document_status document.NoMemory = 3
document_status _ = 1

abbrev pub plan_status : PlanError → ℕ
plan_status plan.NoMemory = 3
plan_status _ = 1

abbrev pub run_status : RunError → ℕ
run_status run.Options = 2
run_status (run.Spec e) = spec_status e
run_status (run.Document e) = document_status e
run_status (run.Plan e) = plan_status e
run_status (run.NoMemory written) = 3
run_status (run.Write written) = 3
