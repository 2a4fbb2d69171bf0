use Rattle.imposer.proofs.Made.{job_finished, job_refused, job_written, job_steady, job_failed}
use Rattle.imposer.proofs.planned.run_plan.Goals as goal

pub returns-in-Ok-clause-finished : goal.returns-in-Ok-clause-finished
returns-in-Ok-clause-finished g c = job_finished c.args.job.now (g.S.Sink.seen c.args.sink.now) (g.S.Sink.seen c.gather_plan.new.sink) c.in-Ok.ended.gathered.outcome c.in-Ok.ensures.answers

pub returns-in-Ok-clause-refused : goal.returns-in-Ok-clause-refused
returns-in-Ok-clause-refused g c = job_refused c.args.job.now (g.S.Sink.seen c.args.sink.now) (g.S.Sink.seen c.gather_plan.new.sink) c.in-Ok.ended.gathered.outcome c.in-Ok.ensures.answers

pub returns-in-Ok-clause-written : goal.returns-in-Ok-clause-written
returns-in-Ok-clause-written g c = job_written c.args.job.now (g.S.Sink.seen c.args.sink.now) (g.S.Sink.seen c.gather_plan.new.sink) c.in-Ok.ended.gathered.outcome c.in-Ok.ensures.answers

pub returns-in-Ok-clause-steady : goal.returns-in-Ok-clause-steady
returns-in-Ok-clause-steady g c = job_steady c.args.job.now (g.S.Sink.seen c.args.sink.now) (g.S.Sink.seen c.gather_plan.new.sink) c.in-Ok.ended.gathered.outcome c.in-Ok.ensures.answers

pub returns-in-Ok-clause-failed : goal.returns-in-Ok-clause-failed
returns-in-Ok-clause-failed g c = job_failed c.args.job.now (g.S.Sink.seen c.args.sink.now) (g.S.Sink.seen c.gather_plan.new.sink) c.in-Ok.ended.gathered.outcome c.in-Ok.ensures.answers
