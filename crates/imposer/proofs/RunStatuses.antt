-- No error of a run ends with status 0.
use Rattle.std.proofs.Common.{◌<◌, lit<}
use Rattle.pagespec.specs.declared.error.SpecError.{SpecError}
use Rattle.pagespec.specs.declared.error.SpecError.TheVariants as spec
use Rattle.dsc.specs.declared.errors.DscError.{DscError}
use Rattle.dsc.specs.declared.errors.DscError.TheVariants as document
use Rattle.sheet_plan.specs.declared.error.PlanError.{PlanError}
use Rattle.sheet_plan.specs.declared.error.PlanError.TheVariants as plan
use Rattle.imposer.specs.declared.outcome.RunError.{RunError}
use Rattle.imposer.specs.declared.outcome.RunError.TheVariants as run
use Rattle.imposer.specs.Statuses.{document_status, plan_status, run_status, spec_status}

spec_status-above : (e : SpecError) → 0 < spec_status e
spec_status-above spec.TooLong = lit< tt
spec_status-above (spec.Syntax at) = lit< tt
spec_status-above spec.TooLarge = lit< tt
spec_status-above spec.ModuloZero = lit< tt
spec_status-above (spec.PageOutOfBlock item) = lit< tt
spec_status-above (spec.ScaleZero item) = lit< tt
spec_status-above (spec.Repeated item) = lit< tt
spec_status-above (spec.TooManySlots group) = lit< tt
spec_status-above spec.TooManyGroups = lit< tt
spec_status-above spec.NoMemory = lit< tt

document_status-above : (e : DscError) → 0 < document_status e
document_status-above document.TooLong = lit< tt
document_status-above document.NotPostScript = lit< tt
document_status-above (document.BadCount at) = lit< tt
document_status-above (document.ShortData at) = lit< tt
document_status-above document.TooManyPages = lit< tt
document_status-above document.NoPages = lit< tt
document_status-above document.NoMemory = lit< tt

plan_status-above : (e : PlanError) → 0 < plan_status e
plan_status-above plan.TooManyPages = lit< tt
plan_status-above plan.TooManySheets = lit< tt
plan_status-above plan.TooManyPlaces = lit< tt
plan_status-above plan.NoMemory = lit< tt

pub run_status-above : (e : RunError) → 0 < run_status e
run_status-above run.Options = lit< tt
run_status-above (run.Spec e) = spec_status-above e
run_status-above (run.Document e) = document_status-above e
run_status-above (run.Plan e) = plan_status-above e
run_status-above (run.NoMemory written) = lit< tt
run_status-above (run.Write written) = lit< tt
