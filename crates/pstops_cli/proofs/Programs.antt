-- What the whole program's ending says.
use Rattle.std.proofs.Common.{◌≡◌, ◌∙◌, ℕ, List, [], Bool, Option, Result, Ok, Err, arith, inl, inr, refl, subst, sym, ap}
use Rattle.std.specs.Prelude.{◌⊎◌, ◌+◌, ◌<◌, ◌≤◌, IfErr, IsOk, OnOk, option_map, string_bytes}
use Rattle.std.specs.Io.KnownBytes.{Appends, Keeps}
use Rattle.std.proofs.KnownBytes.{Appends-kept}
use Rattle.rules.specs.Output.{output}
use Rattle.imposer.specs.Runs.{Accepted, frame_of}
use Rattle.imposer.specs.declared.outcome.Report.{Report}
use Rattle.imposer.specs.declared.outcome.RunError.{RunError}
use Rattle.imposer.specs.declared.outcome.RunError.TheVariants as run
use Rattle.world.specs.Outputs.{IsFrontOf, reported_if}
use Rattle.imposer.specs.Outcomes.{FailedIn}
use Rattle.imposer.specs.Runs as runs
use Rattle.pstops_cli.specs.Messages.{fault_exit_status}
use Rattle.sheet_writer.specs.Sinks.{SinkView}
use Rattle.pstops_cli.specs.RequestRuns.{EndsRun, IsLineOf, asked_by, outcome_status}
use Rattle.world.specs.declared.rest.Rest.{Rest}
use Rattle.std.specs.declared.io.ErrorKind.{ErrorKind}
use Rattle.std.specs.declared.io.ErrorKind.TheVariants.{OutOfMemory}
use Rattle.world.specs.Worlds.{HasRefused, WorldView, creating}
use Rattle.pstops_cli.specs.Programs.{CreatesAndRuns, FailsToCreate, IsSaid, Ran}
use Rattle.pstops_cli.specs.declared.command.Request.{Request}
use Rattle.pstops_cli.specs.declared.messages.Fault.{Fault}
use Rattle.pstops_cli.specs.declared.messages.Fault.TheVariants as fault
use Rattle.imposer.proofs.RunStatuses.{run_status-above}
use Rattle.pstops_cli.proofs.Statuses.{finished_at_zero}

not_zero : (n : ℕ) → n ≡ 3 → n ≡ 0 → ⊥
not_zero n three zero = omega (arith, three, zero)

-- a fault of three is said with three
three_is_said : (f : Fault) (status : ℕ) (line : List ℕ) → fault_exit_status f ≡ 3 → IsSaid f status line → status ≡ 3
three_is_said f status line three (inl of_run) = of_run.0 ∙ three
three_is_said f status line three (inr none) = none.0

creating_is_three : {W : Type 0} (seen : W → WorldView) (name : Option (List ℕ)) (old new : W) (f : Fault) → FailsToCreate seen name old new f → fault_exit_status f ≡ 3
creating_is_three seen name old new fault.Create why = refl
creating_is_three seen name old new (fault.Run e) why = ap (λ e. fault_exit_status (fault.Run e)) why.0
creating_is_three seen name old new (fault.Command e) why = absurd why
creating_is_three seen name old new (fault.Read e) why = absurd why

-- at status 0 the outcome's own status is 0
said_zero : (quiet : Bool) (ended : Result Report RunError) (status : ℕ) (line : List ℕ) → status ≡ 0
    → IsLineOf quiet ended status line → outcome_status ended ≡ 0
said_zero quiet ended status line zero (inl of_run) = sym of_run.0 ∙ zero
said_zero quiet ended status line zero (inr none) = absurd (not_zero status none.1 zero)

ok_at_zero : (ended : Result Report RunError) → outcome_status ended ≡ 0 → IsOk ended
ok_at_zero (Ok report) zero = refl
ok_at_zero (Err e) zero = let above = run_status-above e in absurd (omega (arith, above, zero))

-- a run fails once at most
once_in : (e : RunError) (old new : SinkView) → FailedIn e old new → new.failures ≤ old.failures + 1
once_in (run.NoMemory n) old new (inl same) = omega (arith, same)
once_in (run.NoMemory n) old new (inr more) = omega (arith, more)
once_in (run.Write n) old new more = omega (arith, more)
once_in run.Options old new same = omega (arith, same)
once_in (run.Spec e) old new same = omega (arith, same)
once_in (run.Document e) old new same = omega (arith, same)
once_in (run.Plan e) old new same = omega (arith, same)

once : (ended : Result Report RunError) (old new : SinkView) → OnOk ended (new.failures ≡ old.failures) → IfErr ended (λ e. FailedIn e old new) → new.failures ≤ old.failures + 1
once (Ok report) old new steady failed = omega (arith, steady)
once (Err e) old new steady failed = once_in e old new failed

pub few_failures : (a : runs.Request) (old new : SinkView) (ended : Result Report RunError) → EndsRun a old new ended → old.failures ≡ 0 → new.failures ≤ 1
few_failures a old new ended ends fresh = let few = once ended old new ends.steady ends.failed in omega (arith, few, fresh)

-- the run ended, and its output has what was written out
pub ran : (r : Request) (input : List ℕ) (reports_outputs : Bool) (start sink : SinkView) (failures : ℕ) (written : Option (List ℕ))
    (ended : Result Report RunError) (status : ℕ) (line : List ℕ)
    → start.bytes ≡ reported_if reports_outputs (option_map string_bytes r.outfile) [] → start.failures ≡ 0
    → EndsRun (asked_by r input) start sink ended → IsFrontOf written sink.bytes
    → (status ≡ 0 → Keeps sink.bytes written) → (status ≡ 0 → failures ≡ sink.failures) → sink.failures ≤ failures
    → IsLineOf r.quiet ended status line ⊎ (IsOk ended × (0 < failures) × IsSaid (fault.Run (run.Write 0)) status line)
    → Ran r input reports_outputs written failures status line
ran r input reports_outputs start sink failures written ended status line began fresh ends part whole steady counted said = record {
  ended = ended;
  sink = sink;
  ends = subst (λ (s : SinkView). EndsRun (asked_by r input) s sink ended) (λ i. record { bytes = began i; failures = fresh i }) ends;
  part = part;
  whole = whole;
  steady = steady;
  counted = counted;
  said = said;
}

-- the run finished, and the output's last bytes couldn't be written
pub cut : (r : Request) (input : List ℕ) (reports_outputs : Bool) (start sink : SinkView) (failures : ℕ) (written : Option (List ℕ))
    (ended : Result Report RunError) (answered status : ℕ) (line line' : List ℕ)
    → start.bytes ≡ reported_if reports_outputs (option_map string_bytes r.outfile) [] → start.failures ≡ 0
    → EndsRun (asked_by r input) start sink ended → IsLineOf r.quiet ended answered line → answered ≡ 0
    → IsFrontOf written sink.bytes → failures ≡ sink.failures + 1 → IsSaid (fault.Run (run.Write 0)) status line'
    → Ran r input reports_outputs written failures status line'
cut r input reports_outputs start sink failures written ended answered status line line' began fresh ends of_run zero part failed said =
    let not_finished : status ≡ 0 → ⊥ = not_zero status (three_is_said (fault.Run (run.Write 0)) status line' refl said) in
    ran r input reports_outputs start sink failures written ended status line' began fresh ends part
    (λ none. absurd (not_finished none)) (λ none. absurd (not_finished none)) (omega (arith, failed))
    (inr (ok_at_zero ended (said_zero r.quiet ended answered line zero of_run), omega (arith, failed), said))

carried : (r : Request) (input : List ℕ) (reports_outputs : Bool) (written : Option (List ℕ)) (failures status : ℕ) (line : List ℕ)
    → status ≡ 0 → (h : Ran r input reports_outputs written failures status line)
    → IsLineOf r.quiet h.ended status line
    → Accepted (asked_by r input) (λ spec us. Appends (reported_if reports_outputs (option_map string_bytes r.outfile) []) written
    (output (frame_of r.options) r.options.sides spec us))
carried r input reports_outputs written failures status line zero h of_run =
    let at = finished_at_zero (asked_by r input) _ h.sink.bytes h.ended (said_zero r.quiet h.ended status line zero of_run) h.ends.finished in
    (at.0, at.1, at.2, Appends-kept _ h.sink.bytes written _ at.3 (h.whole zero))

ran_carried : (r : Request) (input : List ℕ) (reports_outputs : Bool) (written : Option (List ℕ)) (failures status : ℕ) (line : List ℕ)
    → status ≡ 0 → (h : Ran r input reports_outputs written failures status line)
    → IsLineOf r.quiet h.ended status line ⊎ (IsOk h.ended × (0 < failures) × IsSaid (fault.Run (run.Write 0)) status line)
    → Accepted (asked_by r input) (λ spec us. Appends (reported_if reports_outputs (option_map string_bytes r.outfile) []) written
    (output (frame_of r.options) r.options.sides spec us))
ran_carried r input reports_outputs written failures status line zero h (inl of_run) = carried r input reports_outputs written failures status line zero h of_run
ran_carried r input reports_outputs written failures status line zero h (inr cut_off) =
    absurd (not_zero status (three_is_said (fault.Run (run.Write 0)) status line refl cut_off.2) zero)

-- at status 0 the request was carried out
pub carries_out : {W O : Type 0} (seen : W → WorldView) (r : Request) (input : List ℕ) (reports_outputs : Bool) (world : W) (rest : Rest W O) (written : Option (List ℕ))
    (failures status : ℕ) (line : List ℕ) → status ≡ 0
    → CreatesAndRuns seen r input reports_outputs world rest written failures status line
    → Accepted (asked_by r input) (λ spec us. Appends (reported_if reports_outputs (option_map string_bytes r.outfile) []) written
    (output (frame_of r.options) r.options.sides spec us))
carries_out seen r input reports_outputs world rest written failures status line zero (inl h) =
    absurd (not_zero status (three_is_said h.0 status line (creating_is_three seen (option_map string_bytes r.outfile) world h.1 h.0 h.2) h.3) zero)
carries_out seen r input reports_outputs world rest written failures status line zero (inr h) = ran_carried r input reports_outputs written failures status line zero h.1 h.1.said
