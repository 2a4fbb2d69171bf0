-- What the answers of a run mean.
use Rattle.std.specs.Io.KnownBytes.{Appends, Keeps}
use Rattle.std.specs.Prelude.{Result, Ok, Err, IsSomeAnd, ⊤, ◌⊎◌, ◌≡◌, ℕ, ◌≤◌, List, length, take, Option}
use Rattle.sheet_writer.specs.Sinks.{SinkView}
use Rattle.rules.specs.Specification.{Spec}
use Rattle.rules.specs.Admissible.{Takes, Refuses, most_slots, most_spec_bytes}
use Rattle.rules.specs.Sheets.{layout}
use Rattle.rules.specs.Signatures.{sheets_in}
use Rattle.rules.specs.Parts.{NestedUnit, pages}
use Rattle.rules.specs.Output.{Frame, framed, output}
use Rattle.rules.specs.Run.{document_of, plan_in}
use Rattle.dsc.specs.Faults as dsc
use Rattle.imposer.specs.Options.{AreOptions}
use Rattle.pagespec.specs.Faults.{fault_named}
use Rattle.pagespec.specs.Refusals.{IsSyntaxPlace}
use Rattle.sheet_plan.specs.Plans.{planned_in}
use Rattle.sheet_plan.specs.Places.{born_complete}
use Rattle.imposer.specs.Faults.{reported_plan_fault}
use Rattle.imposer.specs.Outcomes.{AfterError, FailedIn}
use Rattle.imposer.specs.declared.outcome.RunError.{RunError}
use Rattle.imposer.specs.declared.outcome.RunError.TheVariants as error
use Rattle.imposer.specs.declared.options.Options.{Options}
use Rattle.imposer.specs.declared.outcome.Report.{Report}
use Rattle.imposer.specs.declared.runs.Given.{Given}

-- how pages are placed
abbrev pub frame_of : Options → Frame
frame_of options = framed options.paper options.border

-- what a run was asked
pub record Request : Type 0 where
  pub options : Options
  pub spec : List ℕ
  pub input : List ℕ

-- the request that these options, this specification and this input make
abbrev pub request : Options → List ℕ → List ℕ → Request
request options spec input = record { options = options; spec = spec; input = input }

-- every check passes; the specification comes to this, and the input is cut into these units
pub record IsRunAccepted (r : Request) (spec : Spec) (us : List NestedUnit) : Type 0 where
  pub options : AreOptions r.options
  pub takes : Takes most_slots r.spec spec
  pub document : document_of r.input ≡ Ok us
  pub plan : plan_in r.options.sides spec (length (pages us)) ≡ Ok (sheets_in r.options.sides spec (length (pages us)))

-- the request is accepted, and this holds of what it comes to
abbrev pub Accepted : Request → (Spec → List NestedUnit → Type 0) → Type 0
Accepted r P = (spec : Spec) × (us : List NestedUnit) × IsRunAccepted r spec us × P spec us

-- what an error says of the checks. A refusal names one that fails, and each before it passes; a syntax fault has a place in
-- the specification; out of memory comes after the checks that need none; a failed write comes after all of them
abbrev pub AgreesWithChecks : Request → RunError → Type 0
AgreesWithChecks r error.Options = AreOptions r.options → ⊥
AgreesWithChecks r (error.Spec e) =
    AreOptions r.options × IsSomeAnd (fault_named e) (λ f. Refuses most_slots r.spec f) × IsSyntaxPlace r.spec e
AgreesWithChecks r (error.Document e) =
    AreOptions r.options × ((spec : Spec) × Takes most_slots r.spec spec)
    × IsSomeAnd (dsc.reported_fault e) (λ f. document_of r.input ≡ Err f)
AgreesWithChecks r (error.Plan e) =
    AreOptions r.options
    × ((spec : Spec) × (us : List NestedUnit) × Takes most_slots r.spec spec × (document_of r.input ≡ Ok us)
    × IsSomeAnd (reported_plan_fault e) (λ f. plan_in r.options.sides spec (length (pages us)) ≡ Err f))
AgreesWithChecks r (error.NoMemory written) = AreOptions r.options × (length r.spec ≤ most_spec_bytes)
AgreesWithChecks r (error.Write written) = Accepted r (λ spec us. ⊤)

-- the first bytes of the output of an accepted request, as many as were written
abbrev pub WrotePart : Request → (old new : SinkView) → ℕ → Type 0
WrotePart r old new written =
    Accepted r (λ spec us. let whole = output (frame_of r.options) r.options.sides spec us in (written ≤ length whole)
    × Appends old.bytes new.bytes (take written whole))

-- what the sink has taken after an error
abbrev pub HasWritten : Request → (old new : SinkView) → RunError → Type 0
HasWritten r old new e = AfterError e (Keeps old.bytes new.bytes)
    (λ written. ((written ≡ 0) × Keeps old.bytes new.bytes) ⊎ WrotePart r old new written) (WrotePart r old new)

-- the numbers of a report
pub record Reports (frame : Frame) (sides : Option ℕ) (spec : Spec) (us : List NestedUnit)
    (report : Report) : Type 0 where
  pub page_count : report.pages ≡ length (pages us)
  pub sheet_count : report.sheets ≡ length (sheets_in sides spec (length (pages us)))
  pub born_blank : report.born ≡ length (born_complete (layout (planned_in sides spec (length (pages us)))))
  pub swept_within : report.swept ≤ report.sheets
  pub byte_count : report.bytes ≡ length (output frame sides spec us)

-- nothing was written
abbrev pub IsUnwritten : RunError → Type 0
IsUnwritten e = AfterError e ⊤ (λ written. written ≡ 0) (λ written. ⊥)

-- the request was read: its options are taken, its specification is this one, and its input is cut into these units
pub record IsGiven (r : Request) (chosen : Options) (given : Given) : Type 0 where
  pub same_options : r.options ≡ chosen
  pub options : AreOptions r.options
  pub takes : Takes most_slots r.spec given.spec
  pub document : document_of r.input ≡ Ok given.document

-- what a run answers: at Ok exactly the output was written; an error names the first check that fails, and as much of
-- the output was written as it says
abbrev pub AnswersRequest : Request → (old new : SinkView) → Result Report RunError → Type 0
AnswersRequest r old new (Ok report) =
    Accepted r (λ spec us. Appends old.bytes new.bytes (output (frame_of r.options) r.options.sides spec us)
    × Reports (frame_of r.options) r.options.sides spec us report) × (new.failures ≡ old.failures)
AnswersRequest r old new (Err e) = AgreesWithChecks r e × HasWritten r old new e × FailedIn e old new
