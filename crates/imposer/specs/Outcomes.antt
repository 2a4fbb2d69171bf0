-- What an error of a part makes of a run, before anything was written; and what holds after an error of a run.
use Rattle.std.specs.Prelude.{ℕ, ⊤, ◌⊎◌, ◌≡◌, ◌+◌}
use Rattle.sheet_writer.specs.Sinks.{SinkView}
use Rattle.pagespec.specs.declared.error.SpecError.{SpecError}
use Rattle.pagespec.specs.declared.error.SpecError.TheVariants as spec
use Rattle.sheet_plan.specs.declared.error.PlanError.{PlanError}
use Rattle.sheet_plan.specs.declared.error.PlanError.TheVariants as plan
use Rattle.dsc.specs.declared.errors.DscError.{DscError}
use Rattle.dsc.specs.declared.errors.DscError.TheVariants as document
use Rattle.imposer.specs.declared.outcome.RunError.{RunError}
use Rattle.imposer.specs.declared.outcome.RunError.TheVariants as error

abbrev pub no_memory : RunError
no_memory = error.NoMemory 0

abbrev pub of_spec : SpecError → RunError
of_spec spec.NoMemory = no_memory
of_spec other = error.Spec other

abbrev pub of_document : DscError → RunError
of_document document.NoMemory = no_memory
of_document other = error.Document other

abbrev pub of_plan : PlanError → RunError
of_plan plan.NoMemory = no_memory
of_plan other = error.Plan other

-- what holds after an error: `refused` after a refusal, before which nothing was written, and of the number of bytes
-- that were written `spent` after out of memory and `failed` after a failed write
abbrev pub AfterError : RunError → (refused : Type 0) → (spent failed : ℕ → Type 0) → Type 0
AfterError error.Options refused spent failed = refused
AfterError (error.Spec e) refused spent failed = refused
AfterError (error.Document e) refused spent failed = refused
AfterError (error.Plan e) refused spent failed = refused
AfterError (error.NoMemory written) refused spent failed = spent written
AfterError (error.Write written) refused spent failed = failed written

-- memory ran out or a write failed, once all was read and planned
abbrev pub IsNoRefusal : RunError → Type 0
IsNoRefusal e = AfterError e ⊥ (λ written. ⊤) (λ written. ⊤)

-- how often the sink had failed before a run that ended so, and after it: a failed write is one failure, and out of
-- memory may have met one too
abbrev pub FailedIn : RunError → (old new : SinkView) → Type 0
FailedIn e old new = AfterError e (new.failures ≡ old.failures)
    (λ written. (new.failures ≡ old.failures) ⊎ (new.failures ≡ old.failures + 1))
    (λ written. new.failures ≡ old.failures + 1)
