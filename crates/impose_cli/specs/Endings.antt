-- How a request ends that is to be imposed: it is refused, and the world is back; or there is something to write, and it was
-- written, or its first bytes were, or no output could be created.
use Rattle.std.specs.Prelude.{◌≡◌, ◌⊎◌, ℕ, ◌-◌, ◌<◌, ◌≤◌, ◌++◌, List, [], length, take, Bool, true, Option, Some, Result, Ok, Err, IfSome, option_map, string_bytes}
use Rattle.std.specs.Io.KnownBytes.{Appends, Keeps, append_known}
use Rattle.std.specs.IoError.{error_kind}
use Rattle.std.specs.declared.io.ErrorKind.{ErrorKind}
use Rattle.std.below.std_io.specs.declared.io.error.Error.{Error}
use Rattle.std.specs.declared.io.ErrorKind.TheVariants.{OutOfMemory}
use Rattle.sheet_text.specs.Jobs.{JobView, output_of}
use Rattle.sheet_writer.specs.Sinks.{SinkView}
use Rattle.world.specs.Outputs.{OutputView, named, reported_if}
use Rattle.world.specs.Worlds.{HasRefused, WorldView, creating}
pub use Rattle.world.specs.Rests.{has_output, shown}
use Rattle.imposer.specs.Gathering.{ReportsOf}
use Rattle.imposer.specs.declared.outcome.Report.{Report}
use Rattle.imposer.specs.declared.outcome.RunError.TheVariants as run
use Rattle.row_runs.specs.Runs.{RefusesRun, page_count}
use Rattle.row_runs.specs.declared.error.SheetError.{SheetError}
use Rattle.row_runs.specs.declared.run.RowJob.{RowJob}
use Rattle.impose_messages.specs.Faults.{without_memory}
use Rattle.impose_cli.specs.Faults.{of_asked}
use Rattle.impose_cli.specs.RowTasks.{FinishesRow, IsJobOf, IsRowTask}
use Rattle.impose_cli.specs.Refusals.{RefusesRowTask, RefusesText}
use Rattle.world.specs.declared.rest.Rest.{Rest}
use Rattle.world.specs.declared.rest.Rest.TheVariants.{Output, World}
use Rattle.impose_cli.specs.declared.row_task.RowTask.{RowTask}
use Rattle.impose_words.specs.declared.request.ImposeRequest.{ImposeRequest}
use Rattle.impose_messages.specs.declared.fault.ImposeFault.{ImposeFault}
use Rattle.impose_messages.specs.declared.fault.ImposeFault.TheVariants as fault
use Rattle.impose_messages.specs.declared.finished.Done.{Done}
use Rattle.impose_messages.specs.declared.finished.Done.TheVariants as done
use Rattle.impose_messages.specs.declared.finished.Findings.{Findings}
use Rattle.impose_messages.specs.declared.finished.SheetFacts.{SheetFacts}

-- ---- what is written

-- what holds of the number of bytes that a fault says were written: after a failed write, and if memory ran out
abbrev pub AfterWrite : ImposeFault → (failed spent : ℕ → Type 0) → Type 0
AfterWrite (fault.Write n cause) failed spent = failed n
AfterWrite (fault.Run (run.NoMemory n)) failed spent = spent n
AfterWrite other failed spent = ⊥

-- what clauses see of a world and its outputs: whether these report what they have, what it was asked for, and how they failed
pub record Edge (W O : Type 0) : Type 0 where
  pub reports_outputs : Bool
  pub seen : W → WorldView
  pub shows : O → OutputView

-- what clauses see of this world and of its outputs
abbrev pub edge_of_world : {W O : Type 0} → Bool → (W → WorldView) → (O → OutputView) → Edge W O
edge_of_world reports_outputs seen shows = record { reports_outputs = reports_outputs; seen = seen; shows = shows }

-- the world is back, and has refused an output of this name with an error of this kind
abbrev pub Refused : {W O : Type 0} → Edge W O → (name : Option (List ℕ)) → ErrorKind → (before : WorldView) → Rest W O → Type 0
Refused {W} edge name cause before rest = (left : W) × (rest ≡ World left) × HasRefused (creating name) cause before (edge.seen left)

-- the world is back, and the same is seen of it: it was asked for nothing
abbrev pub IsBack : {W O : Type 0} → Edge W O → (before : WorldView) → Rest W O → Type 0
IsBack {W} edge before rest = (left : W) × (rest ≡ World left) × (edge.seen left ≡ before)

-- no output of this name could be created: the fault says so, with the world's cause
abbrev pub IsUncreatedFault : {W O : Type 0} → Edge W O → (name : Option (List ℕ)) → (before : WorldView) → ImposeFault → Rest W O → Type 0
IsUncreatedFault edge name before (fault.Write n (Some cause)) rest = (n ≡ 0) × Refused edge name (error_kind cause) before rest
IsUncreatedFault edge name before other rest = ⊥

-- or memory ran out before there was a byte to write: then the world was asked for nothing, or has refused for want of memory
abbrev pub IsNotCreated : {W O : Type 0} → Edge W O → (name : Option (List ℕ)) → (before : WorldView) → ImposeFault → Rest W O → Type 0
IsNotCreated edge name before f rest =
    ((f ≡ without_memory) × (IsBack edge before rest ⊎ Refused edge name OutOfMemory before rest)) ⊎ IsUncreatedFault edge name before f rest

-- the output is there, and hasn't failed
abbrev pub IsUnfailed : {W O : Type 0} → Edge W O → Rest W O → Type 0
IsUnfailed {W} {O} edge rest = (output : O) × (rest ≡ Output output) × ((edge.shows output).failures ≡ 0)

-- the output is there, and has failed, for this cause
abbrev pub HasFailed : {W O : Type 0} → Edge W O → Option Error → Rest W O → Type 0
HasFailed {W} {O} edge cause rest =
    (output : O) × (rest ≡ Output output) × (0 < (edge.shows output).failures) × (cause ≡ (edge.shows output).cause)

-- what is said of an output after so many bytes: its failure, or if it hasn't failed and has taken a byte, that memory ran out
abbrev pub IsSaidOf : OutputView → (n : ℕ) → ImposeFault → Type 0
IsSaidOf view n (fault.Write m cause) = (m ≡ n) × (0 < view.failures) × (cause ≡ view.cause)
IsSaidOf view n (fault.Run (run.NoMemory m)) = (m ≡ n) × (view.failures ≡ 0) × (view.has_taken ≡ true)
IsSaidOf view n other = ⊥

-- the output has the first bytes of this text, so many, if it reports what it has
abbrev pub HasFirst : (old new : Option (List ℕ)) → (text : List ℕ) → (n : ℕ) → Type 0
HasFirst old new text n = IfSome old (λ start. (n ≤ length text) × (new ≡ Some (start ++ take n text)))

-- an output of this name is there, with as many of the first bytes of this text as the fault says
abbrev pub IsBroken : {W O : Type 0} → Edge W O → (name : Option (List ℕ)) → (text : List ℕ) → ImposeFault → Rest W O → Type 0
IsBroken {W} {O} edge name text f rest =
    (output : O) × (rest ≡ Output output) × (n : ℕ) × IsSaidOf (edge.shows output) n f
    × HasFirst (reported_if edge.reports_outputs name []) (edge.shows output).bytes text n

-- the output is there, with all that its sink took, and failed as often
abbrev pub Holds : {W O : Type 0} → Edge W O → SinkView → Rest W O → Type 0
Holds {W} {O} edge sink rest =
    (output : O) × (rest ≡ Output output) × Keeps sink.bytes (edge.shows output).bytes × ((edge.shows output).failures ≡ sink.failures)

-- Memory ran out or a write failed, when the sink had taken so many bytes and reported these: none was created, or an output of
-- this name is there, with all of them but some that wait.
abbrev pub BreaksOff : {W O : Type 0} → Edge W O → (name : Option (List ℕ)) → (before : WorldView) → (taken : ℕ)
    → (reported : Option (List ℕ)) → ImposeFault → Rest W O → Type 0
BreaksOff {W} {O} edge name before taken reported f rest =
    IsNotCreated edge name before f rest
    ⊎ ((output : O) × (rest ≡ Output output) × (waiting : List ℕ) × IsSaidOf (edge.shows output) (taken - length waiting) f
    × (reported ≡ append_known (named (edge.shows output).bytes) waiting))

-- What comes of what is to be written to the output of this name. It was written whole, without a failure; or it is refused, and
-- this very world is back; or a whole output would have this text, and none was created, or one has its front. `Refuses` says why it is
-- refused, and `Wrote` what a whole output was before and is now.
abbrev pub Comes : {T W O : Type 0} → (Refuses : ImposeFault → Type 0) → (Wrote : (old new : Option (List ℕ)) → T → Type 0)
    → (name : Option (List ℕ)) → (edge : Edge W O) → Result T ImposeFault → (world : W) → (rest : Rest W O) → (written : Option (List ℕ)) → Type 0
Comes {T} Refuses Wrote name edge (Ok what) world rest written =
    Wrote (reported_if edge.reports_outputs name []) written what × IsUnfailed edge rest
Comes {T} Refuses Wrote name edge (Err f) world rest written =
    (Refuses f × (rest ≡ World world))
    ⊎ ((text : List ℕ) × (what : T) × Wrote (Some []) (Some text) what
    × (IsNotCreated edge name (edge.seen world) f rest ⊎ IsBroken edge name text f rest))

-- ---- the sheets of a job

abbrev pub WritesJob : JobView → (old new : Option (List ℕ)) → Report → Type 0
WritesJob j old new report = Appends old new (output_of j) × ReportsOf j report

-- ---- of a request

-- the fault names the first check of a job that fails
abbrev pub RefusesRowJob : RowJob → ImposeFault → Type 0
RefusesRowJob job f = (error : SheetError) × (f ≡ of_asked (page_count job) error) × RefusesRun job error

-- the text of a task is refused, or its job
abbrev pub RefusesRowTaskRun : ImposeRequest → RowTask → ImposeFault → Type 0
RefusesRowTaskRun r t f = RefusesText t.text.items f ⊎ ((job : RowJob) × IsJobOf r t job × RefusesRowJob job f)

pub record RefusesInRow (r : ImposeRequest) (input : List ℕ) (f : ImposeFault) : Type 0 where
  pub task : RowTask
  pub is_task : IsRowTask r input task
  pub refused : RefusesRowTaskRun r task f

-- there is no task, or its run is refused
abbrev pub RefusesRowRun : ImposeRequest → (input : List ℕ) → ImposeFault → Type 0
RefusesRowRun r input f = RefusesRowTask r input f ⊎ RefusesInRow r input f

-- the outcome of a run, with what is told of its sheets and what the request found before it; a fault stays as it is
abbrev pub reported_by : Findings → SheetFacts → Result Report ImposeFault → Result Done ImposeFault
reported_by findings sheets (Ok report) = Ok (done.Imposed (record { report = report; sheets = sheets; findings = findings }))
reported_by findings sheets (Err f) = Err f

abbrev pub IsImposed : ImposeRequest → (input : List ℕ) → (old new : Option (List ℕ)) → Done → Type 0
IsImposed r input old new (done.Imposed finished) = FinishesRow r input old new finished
IsImposed r input old new other = ⊥

-- what comes of a request to impose this input
abbrev pub RunsRequest : {W O : Type 0} → ImposeRequest → (input : List ℕ) → (edge : Edge W O) → Result Done ImposeFault
    → (world : W) → (rest : Rest W O) → (written : Option (List ℕ)) → Type 0
RunsRequest r input edge outcome world rest written =
    Comes (RefusesRowRun r input) (IsImposed r input) (option_map string_bytes r.outfile) edge outcome world rest written
