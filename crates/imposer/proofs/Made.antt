-- What the parts of a run make together, and the clauses of a run over a job.
use Rattle.std.proofs.Common.{◌≤◌, ◌≡◌, ◌∙◌, List, [], ◌∷◌, Bool, true, false, length, arith}
use Rattle.std.specs.Prelude.{Result, Ok, Err, IfOk, IfErr, OnOk, filter, if◌then◌else◌}
use Rattle.std.specs.Io.KnownBytes.{Appends}
use Rattle.std.specs.List.{range_with_len}
use Rattle.std.proofs.lemmas.List.{length-map}
use Rattle.std.proofs.lemmas.List.FromFn.{length-range_with_len}
use Rattle.rules.specs.Sheets.{Plan, layout}
use Rattle.sheet_plan.specs.Places.{born_complete, is_blank_sheet}
use Rattle.sheet_text.specs.Jobs.{JobView, output_of}
use Rattle.imposer.specs.Outcomes.{FailedIn, IsNoRefusal}
use Rattle.sheet_writer.specs.Sinks.{SinkView}
use Rattle.imposer.specs.Gathering.{Answers, ReportsOf, WrotePartOf}
use Rattle.imposer.specs.declared.outcome.RunError.{RunError}
use Rattle.imposer.specs.declared.outcome.RunError.TheVariants as error
use Rattle.imposer.specs.declared.outcome.Report.{Report}

-- a row that keeps some of n entries has at most n
kept_few : {X : Type 0} (p : X → Bool) (xs : List X) → length (filter p xs) ≤ length xs
kept_few p [] = omega arith
kept_few p (x ∷ xs) = by_test (p x) (omega (arith, kept_few p xs)) (omega (arith, kept_few p xs))
  where
    by_test : (b : Bool) → length (x ∷ filter p xs) ≤ length (x ∷ xs) → length (filter p xs) ≤ length (x ∷ xs) → length (if b then x ∷ filter p xs else filter p xs) ≤ length (x ∷ xs)
    by_test true kept dropped = kept
    by_test false kept dropped = dropped

-- no more sheets are born complete than there are
pub born_few : (plan : Plan) → length (born_complete (layout plan)) ≤ length plan.sheets
born_few plan =
    let all : length (range_with_len 0 (length (layout plan).sheets)) ≡ length plan.sheets = length-range_with_len 0 (length (layout plan).sheets) ∙ length-map _ _ in
    omega (arith, all, kept_few (is_blank_sheet (layout plan)) (range_with_len 0 (length (layout plan).sheets)))

-- the clauses of a run over a job, one by one, and back
pub job_finished : (job : JobView) (old new : SinkView) (result : Result Report RunError) → Answers job old new result
    → IfOk result (λ report. Appends old.bytes new.bytes (output_of job) × ReportsOf job report)
job_finished job old new (Ok report) answers = (answers.0, answers.2)
job_finished job old new (Err e) answers = tt

pub job_refused : (job : JobView) (old new : SinkView) (result : Result Report RunError) → Answers job old new result → IfErr result IsNoRefusal
job_refused job old new (Ok report) answers = tt
job_refused job old new (Err e) answers = late e answers.0
  where
    late : (e : RunError) → WrotePartOf job old new e → IsNoRefusal e
    late error.Options wrote = wrote
    late (error.Spec x) wrote = wrote
    late (error.Document x) wrote = wrote
    late (error.Plan x) wrote = wrote
    late (error.NoMemory w) wrote = tt
    late (error.Write w) wrote = tt

pub job_written : (job : JobView) (old new : SinkView) (result : Result Report RunError) → Answers job old new result → IfErr result (WrotePartOf job old new)
job_written job old new (Ok report) answers = tt
job_written job old new (Err e) answers = answers.0

pub job_steady : (job : JobView) (old new : SinkView) (result : Result Report RunError) → Answers job old new result → OnOk result (new.failures ≡ old.failures)
job_steady job old new (Ok report) answers = answers.1
job_steady job old new (Err e) answers = tt

pub job_failed : (job : JobView) (old new : SinkView) (result : Result Report RunError) → Answers job old new result → IfErr result (λ e. FailedIn e old new)
job_failed job old new (Ok report) answers = tt
job_failed job old new (Err e) answers = answers.1
