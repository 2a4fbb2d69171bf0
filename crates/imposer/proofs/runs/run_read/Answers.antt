use Rattle.std.proofs.Common.{sym, subst}
use Rattle.sheet_plan.specs.Refusals.{RefusesIn}
use Rattle.imposer.specs.declared.options.Options.{Options}
use Rattle.imposer.specs.Outcomes.{of_plan}
use Rattle.imposer.specs.Runs.{AnswersRequest}
use Rattle.std.specs.Prelude.{Err}
use Rattle.imposer.proofs.Answered.{refused_answers, job_answers, job_clauses}
use Rattle.imposer.proofs.Refusals.{refused_plan}
use Rattle.imposer.proofs.runs.run_read.Goals as goal

pub returns-in-Err : goal.returns-in-Err
returns-in-Err g c = λ r is.
    let refused = subst (λ (o : Options). RefusesIn o.sides c.args.given.now.spec c.pages.result c.in-Err.error) (sym is.same_options) c.in-Err.ensures.refused in
    let said = refused_plan r c.in-Err.error c.args.given.now.spec c.args.given.now.document _ is.options is.takes is.document c.pages.ensures.count refused in
    subst (λ e. AnswersRequest r (g.S.Sink.seen c.args.sink.now) (g.S.Sink.seen c.args.sink.now) (Err e)) (sym c.from.ensures)
    (refused_answers r (g.S.Sink.seen c.args.sink.now) (of_plan c.in-Err.error) said.0 said.1)

pub new-job-requires-clause-border : goal.new-job-requires-clause-border
new-job-requires-clause-border g c = c.requires.options.1

pub plan_pages-requires : goal.plan_pages-requires
plan_pages-requires g c = c.requires.options.2

pub run_plan-requires-clause-workers : goal.run_plan-requires-clause-workers
run_plan-requires-clause-workers g c κs within = c.requires.options.0

pub returns : goal.returns
returns g c = λ r is.
    job_answers r c.args.options.now c.args.given.now c.in-Ok.plan _ c.new-job.result (g.S.Sink.seen c.args.sink.now) (g.S.Sink.seen c.run_plan.new.sink) c.run_plan.result is c.pages.ensures.count c.in-Ok.ensures.planned c.in-Ok.ensures.accepted c.new-job.ensures.value
    (job_clauses c.new-job.result (g.S.Sink.seen c.args.sink.now) (g.S.Sink.seen c.run_plan.new.sink) c.run_plan.result c.run_plan.ensures.finished c.run_plan.ensures.written c.run_plan.ensures.steady c.run_plan.ensures.failed)
