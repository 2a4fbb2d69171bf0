use Rattle.std.proofs.Common.{sym, ap}
use Rattle.sheet_plan.specs.Sources.{plan_from}
use Rattle.sheet_plan.proofs.Sources.{sound_from, origin_from}
use Rattle.sheet_plan.proofs.source.PlanSource.pages.Goals as goal

pub returns-in-Spec : goal.returns-in-Spec
returns-in-Spec c =
    record { value = ap (λ s. (plan_from s).pages) (sym c.in-Spec.is); sound = sound_from c.args.self.now c.requires; origin = origin_from c.args.self.now c.requires }

pub returns-in-Made : goal.returns-in-Made
returns-in-Made c =
    record { value = ap (λ s. (plan_from s).pages) (sym c.in-Made.is); sound = sound_from c.args.self.now c.requires; origin = origin_from c.args.self.now c.requires }
