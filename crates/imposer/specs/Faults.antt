-- What an error of a plan reports. Out of memory reports no fault.
use Rattle.std.specs.Prelude.{Option, Some, None}
use Rattle.rules.specs.Run.{PlanFault}
use Rattle.rules.specs.Run as run
use Rattle.sheet_plan.specs.declared.error.PlanError.{PlanError}
use Rattle.sheet_plan.specs.declared.error.PlanError.TheVariants as plan

abbrev pub reported_plan_fault : PlanError → Option PlanFault
reported_plan_fault plan.TooManyPages = Some run.PlanTooManyPages
reported_plan_fault plan.TooManySheets = Some run.TooManySheets
reported_plan_fault plan.TooManyPlaces = Some run.TooManyPlaces
reported_plan_fault plan.NoMemory = None
