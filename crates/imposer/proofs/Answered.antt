-- What a run answers that was asked for so.
use Rattle.std.proofs.Common.{ℕ, ◌≤◌, ◌≡◌, ◌∙◌, inl, inr, refl, ap, sym, subst, List, length, take}
use Rattle.std.specs.Prelude.{Result, Ok, Err, IfOk, IfErr, OnOk}
use Rattle.std.specs.Io.KnownBytes.{Appends}
use Rattle.std.proofs.KnownBytes.{Keeps-refl}
use Rattle.rules.specs.Specification.{Spec}
use Rattle.rules.specs.Admissible.{Takes, most_slots}
use Rattle.rules.specs.Run.{document_of, plan_in}
use Rattle.rules.specs.Sheets.{Plan, layout}
use Rattle.rules.specs.Signatures.{sheets_in}
use Rattle.rules.specs.Parts.{NestedUnit, pages}
use Rattle.rules.specs.Output.{Frame, output}
use Rattle.sheet_plan.specs.Plans.{planned_in}
use Rattle.sheet_plan.specs.Places.{born_complete}
use Rattle.sheet_text.specs.Jobs.{JobView, of_frame, output_of}
use Rattle.sheet_text.proofs.OnePaper.{output_is}
use Rattle.imposer.specs.Outcomes.{FailedIn}
use Rattle.imposer.specs.Options.{AreOptions}
use Rattle.sheet_writer.specs.Sinks.{SinkView}
use Rattle.sheet_writer.specs.Writing.{WroteFirst}
use Rattle.imposer.specs.Gathering.{Answers, ReportsOf, WrotePartOf}
use Rattle.imposer.specs.Runs.{Request, frame_of, IsRunAccepted, Accepted, Reports, AgreesWithChecks, IsUnwritten, HasWritten, WrotePart, IsGiven, AnswersRequest}
use Rattle.imposer.specs.declared.options.Options.{Options}
use Rattle.imposer.specs.declared.runs.Given.{Given}
use Rattle.imposer.specs.declared.outcome.RunError.{RunError}
use Rattle.imposer.specs.declared.outcome.RunError.TheVariants as error
use Rattle.imposer.specs.declared.outcome.Report.{Report}

pub accepted_of : (r : Request) (s : Spec) (us : List NestedUnit) (n : ℕ) → AreOptions r.options → Takes most_slots r.spec s → document_of r.input ≡ Ok us → n ≡ length (pages us)
    → plan_in r.options.sides s n ≡ Ok (sheets_in r.options.sides s n) → IsRunAccepted r s us
accepted_of r s us n options takes document count plan = record { options = options; takes = takes; document = document; plan = rw (← count) plan }

-- nothing was written, and the sink is as it was
pub unwritten_kept : (r : Request) (sink : SinkView) (e : RunError) → IsUnwritten e → HasWritten r sink sink e
unwritten_kept r sink error.Options none = Keeps-refl sink.bytes
unwritten_kept r sink (error.Spec e) none = Keeps-refl sink.bytes
unwritten_kept r sink (error.Document e) none = Keeps-refl sink.bytes
unwritten_kept r sink (error.Plan e) none = Keeps-refl sink.bytes
unwritten_kept r sink (error.NoMemory written) none = inl (none, Keeps-refl sink.bytes)
unwritten_kept r sink (error.Write written) none = absurd none

pub unwritten_steady : (e : RunError) (sink : SinkView) → IsUnwritten e → FailedIn e sink sink
unwritten_steady error.Options sink none = refl
unwritten_steady (error.Spec e) sink none = refl
unwritten_steady (error.Document e) sink none = refl
unwritten_steady (error.Plan e) sink none = refl
unwritten_steady (error.NoMemory written) sink none = inl refl
unwritten_steady (error.Write written) sink none = absurd none

-- a refusal before anything was written
pub refused_answers : (r : Request) (sink : SinkView) (e : RunError) → AgreesWithChecks r e → IsUnwritten e → AnswersRequest r sink sink (Err e)
refused_answers r sink e refusal none = (refusal, unwritten_kept r sink e none, unwritten_steady e sink none)

-- what a job that was made of an accepted request answers is the request's answer
pub job_answers : (r : Request) (chosen : Options) (given : Given) (plan : Plan) (n : ℕ) (job : JobView) (old new : SinkView) (result : Result Report RunError)
    → IsGiven r chosen given → n ≡ length (pages given.document) → plan ≡ planned_in chosen.sides given.spec n → plan_in chosen.sides given.spec n ≡ Ok (sheets_in chosen.sides given.spec n)
    → job ≡ of_frame plan given.document (frame_of chosen)
    → Answers job old new result → AnswersRequest r old new result
job_answers r chosen given plan n job old new result is count plan_is accepted job_is = by_result result
  where
    us : List NestedUnit
    us = given.document

    frame : Frame
    frame = frame_of r.options

    here : job ≡ of_frame (planned_in r.options.sides given.spec (length (pages us))) us frame
    here = job_is ∙ ap (λ p. of_frame p us (frame_of chosen)) (plan_is ∙ ap (λ k. planned_in chosen.sides given.spec k) count) ∙ ap (λ (o : Options). of_frame (planned_in o.sides given.spec (length (pages us))) us (frame_of o)) (sym is.same_options)

    whole : output_of job ≡ output frame r.options.sides given.spec us
    whole = ap output_of here ∙ output_is frame r.options.sides given.spec us

    taken : IsRunAccepted r given.spec us
    taken = accepted_of r given.spec us n is.options is.takes is.document count (subst (λ (o : Options). plan_in o.sides given.spec n ≡ Ok (sheets_in o.sides given.spec n)) (sym is.same_options) accepted)

    part : (w : ℕ) → WroteFirst job old new w → WrotePart r old new w
    part w wrote = (given.spec, us, taken, subst (λ t. (w ≤ length t) × Appends old.bytes new.bytes (take w t)) whole wrote)

    by_result : (result : Result Report RunError) → Answers job old new result → AnswersRequest r old new result
    by_result (Ok report) answers = (
      (
        given.spec,
        us,
        taken,
        (
          subst (Appends old.bytes new.bytes) whole answers.0,
          record {
            page_count = answers.2.page_count ∙ ap (λ j. j.plan.pages) here;
            sheet_count = answers.2.sheet_count ∙ ap (λ j. length j.plan.sheets) here;
            born_blank = answers.2.born_blank ∙ ap (λ j. length (born_complete (layout j.plan))) here;
            swept_within = answers.2.swept_within;
            byte_count = answers.2.byte_count ∙ ap (λ t. length t) whole;
          },
        ),
      ),
      answers.1,
    )
    by_result (Err error.Options) answers = absurd answers.0
    by_result (Err (error.Spec e)) answers = absurd answers.0
    by_result (Err (error.Document e)) answers = absurd answers.0
    by_result (Err (error.Plan e)) answers = absurd answers.0
    by_result (Err (error.NoMemory w)) answers = ((is.options, is.takes.0), inr (part w answers.0), answers.1)
    by_result (Err (error.Write w)) answers = ((given.spec, us, taken, tt), part w answers.0, answers.1)

-- the clauses of a run, one by one
pub says_finished : (r : Request) (old new : SinkView) (result : Result Report RunError) → AnswersRequest r old new result
    → IfOk result (λ report. Accepted r (λ spec us. Appends old.bytes new.bytes (output (frame_of r.options) r.options.sides spec us) × Reports (frame_of r.options) r.options.sides spec us report))
says_finished r old new (Ok report) answers = answers.0
says_finished r old new (Err e) answers = tt

pub says_refused : (r : Request) (old new : SinkView) (result : Result Report RunError) → AnswersRequest r old new result → IfErr result (λ e. AgreesWithChecks r e)
says_refused r old new (Ok report) answers = tt
says_refused r old new (Err e) answers = answers.0

pub says_written : (r : Request) (old new : SinkView) (result : Result Report RunError) → AnswersRequest r old new result → IfErr result (λ e. HasWritten r old new e)
says_written r old new (Ok report) answers = tt
says_written r old new (Err e) answers = answers.1

pub says_steady : (r : Request) (old new : SinkView) (result : Result Report RunError) → AnswersRequest r old new result → OnOk result (new.failures ≡ old.failures)
says_steady r old new (Ok report) answers = answers.1
says_steady r old new (Err e) answers = tt

pub says_failed : (r : Request) (old new : SinkView) (result : Result Report RunError) → AnswersRequest r old new result → IfErr result (λ e. FailedIn e old new)
says_failed r old new (Ok report) answers = tt
says_failed r old new (Err e) answers = answers.2

pub job_clauses : (job : JobView) (old new : SinkView) (result : Result Report RunError) → IfOk result (λ report. Appends old.bytes new.bytes (output_of job) × ReportsOf job report)
    → IfErr result (WrotePartOf job old new) → OnOk result (new.failures ≡ old.failures) → IfErr result (λ e. FailedIn e old new) → Answers job old new result
job_clauses job old new (Ok report) finished written steady failed = (finished.0, steady, finished.1)
job_clauses job old new (Err e) finished written steady failed = (written, failed)
