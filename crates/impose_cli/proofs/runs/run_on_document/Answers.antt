use Rattle.impose_cli.specs.Endings.{edge_of_world, shown}
use Rattle.impose_cli.proofs.Rows.{row_runs, row_stops}
use Rattle.impose_cli.proofs.runs.run_on_document.Goals as goal

pub returns-in-Err : goal.returns-in-Err
returns-in-Err g c =
    row_stops c.args.request.now c.args.input.items (edge_of_world (g.W.World.reports_outputs c.args.world) g.W.World.seen g.W.Output.Output.seen) c.in-Err.fault c.refused_before.result.outcome c.args.world c.refused_before.result.rest
    (shown g.W.Output.Output.seen c.refused_before.result.rest) c.refused_before.ensures.outcome c.refused_before.ensures.rest c.in-Err.ensures.refused

pub returns : goal.returns
returns g c =
    let attempt = c.impose_task-attempt.result.0 in
    row_runs c.args.request.now c.args.input.items c.in-Ok.found.0 c.impose_task-attempt.result.1 (edge_of_world (g.W.World.reports_outputs c.args.world) g.W.World.seen g.W.Output.Output.seen) c.reported.result attempt.outcome c.args.world attempt.rest
    (shown g.W.Output.Output.seen attempt.rest) c.in-Ok.ensures.is_task c.reported.ensures c.impose_task-attempt.ensures
