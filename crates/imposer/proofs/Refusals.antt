-- What the refusals of the parts say of a run.
use Rattle.std.proofs.Common.{ℕ, ◌≡◌, List, length, refl}
use Rattle.std.specs.Prelude.{Ok}
use Rattle.rules.specs.Specification.{Spec}
use Rattle.rules.specs.Run.{document_of}
use Rattle.rules.specs.Parts.{NestedUnit, pages}
use Rattle.rules.specs.Admissible.{Takes, most_slots}
use Rattle.sheet_plan.specs.Refusals as plan_said
use Rattle.imposer.specs.Options.{AreOptions}
use Rattle.imposer.specs.Outcomes.{of_plan}
use Rattle.imposer.specs.Runs.{Request, AgreesWithChecks, IsUnwritten}
use Rattle.sheet_plan.specs.declared.error.PlanError.{PlanError}
use Rattle.sheet_plan.specs.declared.error.PlanError.TheVariants as plan

pub refused_plan : (r : Request) (e : PlanError) (s : Spec) (us : List NestedUnit) (n : ℕ) → AreOptions r.options → Takes most_slots r.spec s → document_of r.input ≡ Ok us → n ≡ length (pages us)
    → plan_said.RefusesIn r.options.sides s n e → AgreesWithChecks r (of_plan e) × IsUnwritten (of_plan e)
refused_plan r plan.TooManyPages s us n w taken cut count fault = ((w, (s, us, taken, cut, rw (← count) fault)), tt)
refused_plan r plan.TooManySheets s us n w taken cut count fault = ((w, (s, us, taken, cut, rw (← count) fault)), tt)
refused_plan r plan.TooManyPlaces s us n w taken cut count fault = ((w, (s, us, taken, cut, rw (← count) fault)), tt)
refused_plan r plan.NoMemory s us n w taken cut count fault = ((w, taken.0), refl)
