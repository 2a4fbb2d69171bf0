-- Status 0 is that of a finished run alone.
use Rattle.std.proofs.Common.{◌≡◌, ℕ, List, Option, Result, Ok, Err, IfOk, arith}
use Rattle.std.specs.Io.KnownBytes.{Appends}
use Rattle.rules.specs.Output.{output}
use Rattle.imposer.specs.Runs.{Accepted, Reports, Request, frame_of}
use Rattle.imposer.specs.declared.outcome.Report.{Report}
use Rattle.imposer.specs.declared.outcome.RunError.{RunError}
use Rattle.imposer.proofs.RunStatuses.{run_status-above}
use Rattle.pstops_cli.specs.RequestRuns.{outcome_status}

-- so at status 0 the output was appended
pub finished_at_zero : (a : Request) (told told' : Option (List ℕ)) (ended : Result Report RunError) → outcome_status ended ≡ 0
    → IfOk ended (λ r. Accepted a (λ spec us. Appends told told' (output (frame_of a.options) a.options.sides spec us) × Reports (frame_of a.options) a.options.sides spec us r))
    → Accepted a (λ spec us. Appends told told' (output (frame_of a.options) a.options.sides spec us))
finished_at_zero a told told' (Ok report) zero finished = (finished.0, finished.1, finished.2, finished.3.0)
finished_at_zero a told told' (Err e) zero finished = let above = run_status-above e in absurd (omega (arith, above, zero))
