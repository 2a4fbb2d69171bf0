-- What a source within the limits makes is a sound plan.
use Rattle.std.proofs.Common.{◌⊎◌, inl, inr, refl}
use Rattle.sheet_plan.specs.declared.source.PlanSource.{PlanSource}
use Rattle.sheet_plan.specs.declared.source.PlanSource.TheVariants.{Spec, Made}
use Rattle.sheet_plan.specs.OfSheets.{IsOfSheets}
use Rattle.sheet_plan.specs.Plans.{IsSound, IsOfSpec}
use Rattle.sheet_plan.specs.Sources.{spec_of, plan_from, IsPlannable}
use Rattle.sheet_plan.proofs.Bounds.{sound, of_spec}
use Rattle.sheet_plan.proofs.Accepted.{sound_made}

pub sound_from : (source : PlanSource) → IsPlannable source → IsSound (plan_from source)
sound_from (Spec groups modulo row blocks) kept = sound row.sides (spec_of modulo groups.now) row.pages kept.0
sound_from (Made pages made) kept = sound_made pages made.now kept

pub origin_from : (source : PlanSource) → IsPlannable source → IsOfSpec (plan_from source) ⊎ IsOfSheets (plan_from source)
origin_from (Spec groups modulo row blocks) kept = inl (of_spec row.sides (spec_of modulo groups.now) row.pages kept.0)
origin_from (Made pages made) kept = inr (record { all = made.now; accepted = kept; same = refl })
