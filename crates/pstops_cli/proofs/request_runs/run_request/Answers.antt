use Rattle.std.proofs.Common.{◌∙◌, sym}
use Rattle.pstops_cli.specs.RequestRuns.{asked_by}
use Rattle.pstops_cli.proofs.Statuses.{finished_at_zero}
use Rattle.pstops_cli.proofs.request_runs.run_request.Goals as goal

pub returns-in-Ok-clause-finished : goal.returns-in-Ok-clause-finished
returns-in-Ok-clause-finished g c zero =
    finished_at_zero (asked_by c.args.request.now c.args.input.now) _ _ c.run-ended.result (sym c.in-Ok.ensures.status ∙ zero)
    (rw c.as_str.ensures.value at c.run-ended.ensures.finished)
