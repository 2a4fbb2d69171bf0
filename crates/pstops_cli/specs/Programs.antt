-- The whole program: what its words ask for, what it reads, what it creates and writes, and what it says.
use Rattle.std.specs.Prelude.{◌≡◌, ◌⊎◌, ◌+◌, ◌<◌, ◌≤◌, ℕ, List, [], Bool, true, Option, Some, Result, IsOk, option_map}
use Rattle.std.specs.Prelude.{string_bytes}
use Rattle.std.specs.Io.KnownBytes.{Appends, Keeps}
use Rattle.std.specs.IoError.{error_kind}
use Rattle.std.specs.declared.io.ErrorKind.{ErrorKind}
use Rattle.std.specs.declared.io.ErrorKind.TheVariants.{OutOfMemory}
use Rattle.std.below.std_io.specs.declared.io.error.Error.{Error}
use Rattle.clap.specs.Words.{Text, matches_of}
use Rattle.rules.specs.Output.{output}
use Rattle.imposer.specs.Runs.{Accepted, frame_of}
use Rattle.imposer.specs.declared.outcome.Report.{Report}
use Rattle.imposer.specs.declared.outcome.RunError.{RunError}
use Rattle.imposer.specs.declared.outcome.RunError.TheVariants as run
use Rattle.sheet_writer.specs.Sinks.{SinkView, fresh_sink}
use Rattle.world.specs.Outputs.{IsFrontOf, reported_if}
use Rattle.world.specs.Input.{IsFirst, most_bytes}
use Rattle.world.specs.Rests.{has_output}
use Rattle.world.specs.Worlds.{HasGranted, HasRefused, WasAsked, WorldView, creating, opening}
use Rattle.world.specs.declared.rest.Rest.{Rest}
use Rattle.world.specs.declared.rest.Rest.TheVariants.{World}
use Rattle.pstops_cli.specs.Command.{Reads, RefusesWords, TakesWords, pstops}
use Rattle.pstops_cli.specs.Messages.{fault_exit_status, fault_message, program_line}
use Rattle.pstops_cli.specs.RequestRuns.{EndsRun, IsLineOf, asked_by}
use Rattle.world.specs.declared.read.ReadFault.{ReadFault}
use Rattle.world.specs.declared.read.ReadFault.TheVariants as read
use Rattle.pstops_cli.specs.declared.command.Request.{Request}
use Rattle.pstops_cli.specs.declared.messages.Fault.{Fault}
use Rattle.pstops_cli.specs.declared.messages.Fault.TheVariants as fault

-- what files and standard input give, by the file's name
abbrev pub Gives : Type 0
Gives = Option (List ℕ) → Option (List ℕ)

-- ---- before the run

-- the words make this request
abbrev pub MakesRequest : (words : List Text) → Request → Type 0
MakesRequest words r = TakesWords words × Reads (matches_of pstops words) r

-- the words make this request, and this is what its input gives
abbrev pub HasRead : (words : List Text) → Gives → Request → (input : List ℕ) → Type 0
HasRead words gives r input = MakesRequest words r × IsFirst most_bytes (gives (option_map string_bytes r.infile)) input

-- the fault of an input that couldn't be opened or read for this cause
abbrev pub IsReadFaultOf : (cause : Option Error) → ReadFault → Type 0
IsReadFaultOf cause read.Device = ¬ (option_map error_kind cause ≡ Some OutOfMemory)
IsReadFaultOf cause read.NoMemory = option_map error_kind cause ≡ Some OutOfMemory

-- A world after an input that couldn't be opened or read: it failed once more, and not for want of memory. For want of memory it failed
-- for that, or memory ran out outside it.
abbrev pub IsUnreadInput : ReadFault → (old new : WorldView) → Type 0
IsUnreadInput read.Device old new = (new.failures ≡ old.failures + 1) × ¬ (new.cause ≡ Some OutOfMemory)
IsUnreadInput read.NoMemory old new =
    (new.failures ≡ old.failures) ⊎ ((new.failures ≡ old.failures + 1) × (new.cause ≡ Some OutOfMemory))

-- The faults before anything is created: the words are refused, and the world wasn't asked for anything; or they make a
-- request, whose input alone was asked for and couldn't be opened or read.
abbrev pub StopsBefore : {W : Type 0} → (seen : W → WorldView) → (words : List Text) → (old new : W) → Fault → Type 0
StopsBefore seen words old new (fault.Command f) = RefusesWords words f × (new ≡ old)
StopsBefore seen words old new (fault.Read f) =
    (r : Request) × MakesRequest words r × WasAsked (opening (option_map string_bytes r.infile)) (seen old) (seen new)
    × IsUnreadInput f (seen old) (seen new)
StopsBefore seen words old new fault.Create = ⊥
StopsBefore seen words old new (fault.Run e) = ⊥

-- the world was asked for this request's input, which was read without a failure
abbrev pub HasGivenInput : {W : Type 0} → (seen : W → WorldView) → Request → (old new : W) → Type 0
HasGivenInput seen r old new = HasGranted (opening (option_map string_bytes r.infile)) (seen old) (seen new)

-- ---- what is said

-- the fault's status and line; or 3 and no line, if it found no memory
abbrev pub IsSaid : Fault → (status : ℕ) → (line : List ℕ) → Type 0
IsSaid f status line = ((status ≡ fault_exit_status f) × (line ≡ program_line (fault_message f))) ⊎ ((status ≡ 3) × (line ≡ []))

-- An output of this name couldn't be created: there was no memory for its buffer, and the very world is back; or the world
-- was asked for it, and refused, for want of memory or not.
abbrev pub FailsToCreate : {W : Type 0} → (seen : W → WorldView) → (name : Option (List ℕ)) → (old new : W) → Fault → Type 0
FailsToCreate seen name old new fault.Create =
    (cause : ErrorKind) × ¬ (cause ≡ OutOfMemory) × HasRefused (creating name) cause (seen old) (seen new)
FailsToCreate seen name old new (fault.Run e) =
    (e ≡ run.NoMemory 0) × ((new ≡ old) ⊎ HasRefused (creating name) OutOfMemory (seen old) (seen new))
FailsToCreate seen name old new other = ⊥

-- ---- the run

-- The run of a request into an output that was just created, which now reports `written` and has failed so often: it ended
-- in some way, with all that a run promises, and that way has this status and this line; or it finished and its last bytes
-- couldn't be written, which is said. The output has a first part of what the run handed on, and at status 0 all of it.
-- The output failed at least as often as the run's sink, and at status 0 as often.
pub record Ran (r : Request) (input : List ℕ) (reports_outputs : Bool) (written : Option (List ℕ)) (failures status : ℕ)
    (line : List ℕ) : Type 0 where
  pub ended : Result Report RunError
  pub sink : SinkView
  pub ends : EndsRun (asked_by r input) (fresh_sink (reported_if reports_outputs (option_map string_bytes r.outfile) [])) sink ended
  pub part : IsFrontOf written sink.bytes
  pub whole : status ≡ 0 → Keeps sink.bytes written
  pub steady : status ≡ 0 → failures ≡ sink.failures
  pub counted : sink.failures ≤ failures
  pub said : IsLineOf r.quiet ended status line
      ⊎ (IsOk ended × (0 < failures) × IsSaid (fault.Run (run.Write 0)) status line)

-- no output could be created, with its buffer; or one was, and the request was run into it
abbrev pub CreatesAndRuns : {W O : Type 0} → (seen : W → WorldView) → Request → (input : List ℕ) → (reports_outputs : Bool) → (world : W) → (rest : Rest W O)
    → (written : Option (List ℕ)) → (failures status : ℕ) → (line : List ℕ) → Type 0
CreatesAndRuns {W} seen r input reports_outputs world rest written failures status line =
    ((f : Fault) × (left : W) × FailsToCreate seen (option_map string_bytes r.outfile) world left f × IsSaid f status line × (rest ≡ World left))
    ⊎ ((has_output rest ≡ true) × Ran r input reports_outputs written failures status line)

-- ---- all of it

-- How the program ends. It stopped before anything was created, and the world is back; or it read a request and its
-- input, and either its output couldn't be created, or one was and the request was run.
abbrev pub EndsPstops : {W O : Type 0} → (seen : W → WorldView) → (words : List Text) → Gives → (reports_outputs : Bool) → (world : W) → (rest : Rest W O)
    → (written : Option (List ℕ)) → (failures status : ℕ) → (line : List ℕ) → Type 0
EndsPstops {W} seen words gives reports_outputs world rest written failures status line =
    ((f : Fault) × (left : W) × StopsBefore seen words world left f × IsSaid f status line × (rest ≡ World left))
    ⊎ ((r : Request) × (input : List ℕ) × HasRead words gives r input × (read : W) × HasGivenInput seen r world read
    × CreatesAndRuns seen r input reports_outputs read rest written failures status line)

-- The request that the words make was carried out: the output reports its name and exactly the output defined for the
-- input.
abbrev pub CarriesOutWords : (words : List Text) → Gives → (reports_outputs : Bool) → (written : Option (List ℕ)) → Type 0
CarriesOutWords words gives reports_outputs written =
    (r : Request) × (input : List ℕ) × HasRead words gives r input
    × Accepted (asked_by r input) (λ spec us. Appends (reported_if reports_outputs (option_map string_bytes r.outfile) []) written
    (output (frame_of r.options) r.options.sides spec us))
