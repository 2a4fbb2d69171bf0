use Rattle.std.proofs.Common.{◌∙◌, Err, ap}
use Rattle.std.proofs.KnownBytes.{Keeps-refl}
use Rattle.world.specs.Outputs.{OutputView}
use Rattle.impose_cli.specs.Endings.{edge_of_world, shown}
use Rattle.impose_cli.proofs.Coming.{job_broke, job_held, job_unasked, taken_of, taken_whole}
use Rattle.impose_cli.proofs.runs.write_asked.Goals as goal

pub returns-in-Err : goal.returns-in-Err
returns-in-Err g c =
    job_unasked c.args.job.now g.B.Before.name (edge_of_world (g.W.World.reports_outputs c.args.asked.world) g.W.World.seen g.W.Output.Output.seen) c.refused_before.result.outcome c.args.asked.world c.refused_before.result.rest
    (shown g.W.Output.Output.seen c.refused_before.result.rest) (c.refused_before.ensures.outcome ∙ ap Err c.no_memory.ensures) c.refused_before.ensures.rest

pub returns-in-Ok-write_out : goal.returns-in-Ok-write_out
returns-in-Ok-write_out g c =
    job_held c.args.job.now g.B.Before.name (edge_of_world (g.W.World.reports_outputs c.args.asked.world) g.W.World.seen g.W.Output.Output.seen) g.B.Before.seen c.in-Ok-run_plan.report _ c.written_out.result.outcome c.args.asked.world c.written_out.result.rest _ _
    c.requires.seen (c.new-sink.ensures.bytes ∙ ap (λ (v : OutputView). v.bytes) c.new.ensures.fresh) c.in-Ok-run_plan.ensures.finished c.in-Ok-write_out.ensures.kept
    (c.in-Ok-write_out.ensures.steady ∙ c.in-Ok-run_plan.ensures.steady ∙ c.new-sink.ensures.failures ∙ c.new.ensures.unfailed) c.written_out.ensures

pub returns-in-Err-write_out : goal.returns-in-Err-write_out
returns-in-Err-write_out g c =
    let wrote = c.in-Ok-run_plan.ensures.finished in
    let part = taken_whole c.args.job.now c.in-Ok-run_plan.report.bytes _ _ wrote.1.byte_count wrote.0 in
    job_broke c.args.job.now g.B.Before.name (edge_of_world (g.W.World.reports_outputs c.args.asked.world) g.W.World.seen g.W.Output.Output.seen) g.B.Before.seen c.in-Ok-run_plan.report.bytes c.broken_off.result.outcome c.args.asked.world c.broken_off.result.rest
    (shown g.W.Output.Output.seen c.broken_off.result.rest) _ _ _ c.requires.seen (c.new-sink.ensures.bytes ∙ ap (λ (v : OutputView). v.bytes) c.new.ensures.fresh) part.0 part.1
    c.in-Err-write_out.ensures.kept c.broken_off.ensures

pub returns-in-Err-run_plan : goal.returns-in-Err-run_plan
returns-in-Err-run_plan g c =
    let attempt = c.broken_off-in-Err-run_plan in
    let part = taken_of c.args.job.now c.in-Err-run_plan.error c.taken_before.result _ _ c.taken_before.ensures c.in-Err-run_plan.ensures.written in
    job_broke c.args.job.now g.B.Before.name (edge_of_world (g.W.World.reports_outputs c.args.asked.world) g.W.World.seen g.W.Output.Output.seen) g.B.Before.seen c.taken_before.result attempt.result.outcome c.args.asked.world attempt.result.rest
    (shown g.W.Output.Output.seen attempt.result.rest) _ _ _ c.requires.seen (c.new-sink.ensures.bytes ∙ ap (λ (v : OutputView). v.bytes) c.new.ensures.fresh) part.0 part.1
    (Keeps-refl _) attempt.ensures
