use Rattle.std.proofs.Common.{ap, inl, option_map, rules}
use Rattle.impose_messages.specs.declared.fault.ImposeFault.TheVariants as fault
use Rattle.impose_cli.specs.Endings.{edge_of_world, RefusesRowTaskRun, shown}
use Rattle.impose_cli.specs.Refusals.{IsDocumentRefused}
use Rattle.impose_cli.specs.RowTasks.{ImposesTask}
use Rattle.impose_cli.proofs.Coming.{comes_refused}
use Rattle.impose_cli.proofs.Rows.{task_comes}
use Rattle.impose_cli.proofs.runs.impose_task.Goals as goal

pub returns-in-Err : goal.returns-in-Err
returns-in-Err g c =
    let why : IsDocumentRefused c.args.task.now.text.items c.in-Err.error = rw c.as_slice.ensures.value at c.in-Err.ensures.answer in
    comes_refused (RefusesRowTaskRun c.args.request.now c.args.task.now) (ImposesTask c.args.request.now c.args.task.now _) _ (edge_of_world (g.W.World.reports_outputs c.args.world) g.W.World.seen g.W.Output.Output.seen) (fault.Run c.from.result)
    c.refused_before.result.outcome c.args.world c.refused_before.result.rest (shown g.W.Output.Output.seen c.refused_before.result.rest) c.refused_before.ensures.outcome c.refused_before.ensures.rest
    (inl (c.in-Err.error, ap fault.Run c.from.ensures, why))

pub returns : goal.returns
returns g c =
    task_comes c.args.request.now c.args.task.now _ c.impose_job.result.1 (option_map (λ n. n.now) c.name_of.result) _ (edge_of_world (g.W.World.reports_outputs c.args.world) g.W.World.seen g.W.Output.Output.seen)
    c.impose_job.result.0.outcome c.args.world c.impose_job.result.0.rest (shown g.W.Output.Output.seen c.impose_job.result.0.rest)
    c.impose_job.ensures c.name_of.ensures (search rules)
