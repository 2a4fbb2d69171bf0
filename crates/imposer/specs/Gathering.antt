-- What the answers of a gathering mean.
use Rattle.std.specs.Prelude.{◌≡◌, ℕ, ◌≤◌, [], length, Option, None, Result, Ok, Err, MatchResult, IfSome}
use Rattle.std.specs.Prelude.{IsSomeAnd, IsNone, ⊤}
use Rattle.std.specs.Io.KnownBytes.{Appends}
use Rattle.rules.specs.Sheets.{layout}
use Rattle.rules.specs.Seats.{whole_share}
use Rattle.sheet_plan.specs.Places.{born_complete}
use Rattle.gather_table.specs.Shared.{TableView, SeatView, IsSeat, IsSeatOf}
use Rattle.handover.specs.Passes.{QueueView, PassView, IsPass, IsPassOf}
use Rattle.handover.specs.Shelves.{IsOn}
use Rattle.run_steps.specs.Gathered.{IsGathered, IsHandedOn, AreAllPut}
use Rattle.sheet_text.specs.Jobs.{JobView, output_of}
use Rattle.sheet_writer.specs.Sinks.{SinkView}
use Rattle.sheet_writer.specs.Writing.{WroteFirst, IsProgress}
use Rattle.imposer.specs.Outcomes.{AfterError}
use Rattle.imposer.specs.Outcomes.{FailedIn}
use Rattle.sheet_writer.specs.declared.writing.Progress.{Progress}
use Rattle.imposer.specs.declared.shared.RunObjects.{RunObjects}
use Rattle.imposer.specs.declared.tokens.WorkerTokens.{WorkerTokens}
use Rattle.imposer.specs.declared.gathering.Gathered.{Gathered}
use Rattle.imposer.specs.declared.outcome.Report.{Report}
use Rattle.imposer.specs.declared.outcome.RunError.{RunError}
use Rattle.imposer.specs.declared.outcome.RunError.TheVariants as error

-- the seat has all shares of the table, and has seen nothing yet
abbrev pub IsFreshSeat : TableView → SeatView → Type 0
IsFreshSeat table seat = IsSeatOf table seat × (seat.front ≡ []) × (seat.share ≡ whole_share)

-- the pass has all shares of the queue, and has seen nothing yet
abbrev pub IsFreshPass : QueueView → PassView → Type 0
IsFreshPass queue pass = IsPassOf queue pass × (pass.front ≡ []) × (pass.share ≡ whole_share)

-- the numbers of a report on a job
pub record ReportsOf (job : JobView) (report : Report) : Type 0 where
  pub page_count : report.pages ≡ job.plan.pages
  pub sheet_count : report.sheets ≡ length job.plan.sheets
  pub born_blank : report.born ≡ length (born_complete (layout job.plan))
  pub swept_within : report.swept ≤ report.sheets
  pub byte_count : report.bytes ≡ length (output_of job)

-- out of memory and a failed write are the only errors, and as much of the output was written as they say
abbrev pub WrotePartOf : JobView → (old new : SinkView) → RunError → Type 0
WrotePartOf job old new e = AfterError e ⊥ (WroteFirst job old new) (WroteFirst job old new)

-- the tokens come back, except after out of memory
abbrev pub HandsBackTokens : {T : Type 0} → RunError → Option T → Type 0
HandsBackTokens e tokens = AfterError e ⊥ (λ written. IsNone tokens) (λ written. IsSomeAnd tokens (λ t. ⊤))

-- the tokens of a gathering come back, except after out of memory
abbrev pub TokensComeBack : Gathered → Type 0
TokensComeBack gathered = MatchResult gathered.outcome (λ _. IsSomeAnd gathered.tokens (λ t. ⊤))
    (λ e. HandsBackTokens e gathered.tokens)

-- what the answer says of a sink, which took the whole output or a part of it
abbrev pub Answers : JobView → (old new : SinkView) → Result Report RunError → Type 0
Answers job old new (Ok report) = Appends old.bytes new.bytes (output_of job) × (new.failures ≡ old.failures)
    × ReportsOf job report
Answers job old new (Err e) = WrotePartOf job old new e × FailedIn e old new

-- the answer if what a worker held is missing
abbrev pub GivesUp : ℕ → Gathered → Type 0
GivesUp written gathered = gathered ≡ record { outcome = Err (error.NoMemory written); unshelved = None; tokens = None }

-- a seat and a pass that have all shares again
pub record AreWhole (table : TableView) (queue : QueueView) (its_seat : SeatView) (its_pass : PassView) : Type 0 where
  pub of_table : IsSeatOf table its_seat
  pub of_queue : IsPassOf queue its_pass
  pub seat : IsSeat its_seat
  pub pass : IsPass its_pass
  pub seat_share : its_seat.share ≡ whole_share
  pub pass_share : its_pass.share ≡ whole_share

-- what a gathering leaves whose tokens come back: they have all shares, each sheet was put once at most, and if each page
-- got a receipt, all was called that the pages need; each complete sheet was put exactly once, if there was room
abbrev pub Leaves : TableView → QueueView → (HasRoom : Type 0) → Gathered → Type 0
Leaves table queue HasRoom gathered = IfSome gathered.tokens (λ t. AreWhole table queue t.0 t.1
    × IsHandedOn t.1.front × (IsNone gathered.unshelved → IsGathered table.layout t.0.front)
    × (HasRoom → AreAllPut table.layout t.0.front t.1.front))

-- how a gathering on these objects ends: what it answers of the sink, and what it leaves
pub record EndsOn {G : Type 0} (objects : RunObjects G) (HasRoom : Type 0) (old new : SinkView) (gathered : Gathered) : Type 0 where
  pub outcome : Answers objects.job.now old new gathered.outcome
  pub tokens : TokensComeBack gathered
  pub whole : Leaves objects.table.now objects.ready.now HasRoom gathered
  pub unshelved : IfSome gathered.unshelved (IsOn objects.shelf.now)

-- how a run answers whose workers have ended, wherever its collector began
abbrev pub Concludes : JobView → (old new : SinkView) → Progress → Result Report RunError → Type 0
Concludes job old new p outcome = (start : SinkView) → IsProgress job start old p → Answers job start new outcome

-- what the workers had comes back, except after out of memory
pub record HandsBackAll (ended : WorkerTokens) (gathered : Gathered) : Type 0 where
  pub tokens : TokensComeBack gathered
  pub same : IfSome gathered.tokens (λ t. (t.0 ≡ ended.tokens.seat) × (t.1 ≡ ended.tokens.pass))
  pub unshelved : gathered.unshelved ≡ ended.unshelved
