-- The run of a request, and what is said of how it ended.
use Rattle.std.specs.Prelude.{◌≡◌, ◌⊎◌, ℕ, Bool, false, if◌then◌else◌, List, [], Result, Ok, Err, IfOk, IfErr}
use Rattle.std.specs.Prelude.{OnOk, string_bytes}
use Rattle.std.specs.Io.KnownBytes.{Appends}
use Rattle.rules.specs.Output.{output}
use Rattle.sheet_writer.specs.Sinks.{SinkView}
use Rattle.imposer.specs.Runs.{Accepted, HasWritten, AgreesWithChecks, Reports, frame_of, request}
use Rattle.imposer.specs.Outcomes.{FailedIn}
use Rattle.imposer.specs.Runs as runs
use Rattle.imposer.specs.declared.outcome.Report.{Report}
use Rattle.imposer.specs.declared.outcome.RunError.{RunError}
use Rattle.imposer.specs.Statuses.{run_status}
use Rattle.pstops_cli.specs.declared.command.Request.{Request}
use Rattle.pstops_cli.specs.Messages.{report_message, run_message, program_line}

-- what a request asks of a run
abbrev pub asked_by : Request → (input : List ℕ) → runs.Request
asked_by r input = request r.options (string_bytes r.spec) input

-- a run of what was asked for ended so, with what was seen of its sink before and after it: what a run promises of an Ok
-- and of each error
pub record EndsRun (a : runs.Request) (old new : SinkView) (ended : Result Report RunError) : Type 0 where
  -- at Ok exactly the output was appended, and the report has its numbers
  pub finished : IfOk ended (λ r.
      Accepted a (λ spec us. Appends old.bytes new.bytes (output (frame_of a.options) a.options.sides spec us)
      × Reports (frame_of a.options) a.options.sides spec us r))
  -- a refusal names the first check that fails
  pub refused : IfErr ended (λ e. AgreesWithChecks a e)
  -- after an error the sink has the first bytes of the output, as many as the error says, and none after a refusal
  pub written : IfErr ended (λ e. HasWritten a old new e)
  -- the sink didn't fail if the run finished, and else as often as the error allows: once if a write failed
  pub steady : OnOk ended (new.failures ≡ old.failures)
  pub failed : IfErr ended (λ e. FailedIn e old new)

abbrev pub outcome_status : Result Report RunError → ℕ
outcome_status (Ok report) = 0
outcome_status (Err e) = run_status e

-- a finished run says nothing if the request is quiet
abbrev pub is_silent : (quiet : Bool) → Result Report RunError → Bool
is_silent quiet (Ok report) = quiet
is_silent quiet (Err e) = false

abbrev pub outcome_line : (quiet : Bool) → Result Report RunError → List ℕ
outcome_line quiet (Ok report) = if quiet then [] else program_line (report_message report)
outcome_line quiet (Err e) = program_line (run_message e)

-- its status and line; or 3 and no line, if there is one to say and it found no memory
abbrev pub IsLineOf : (quiet : Bool) → Result Report RunError → (status : ℕ) → (line : List ℕ) → Type 0
IsLineOf quiet ended status line =
    ((status ≡ outcome_status ended) × (line ≡ outcome_line quiet ended))
    ⊎ ((is_silent quiet ended ≡ false) × (status ≡ 3) × (line ≡ []))
