use Rattle.imposer.specs.Runs.{request}
use Rattle.imposer.proofs.Answered.{says_finished, says_refused, says_written, says_steady, says_failed}
use Rattle.imposer.proofs.runs.run.Goals as goal

pub returns-clause-finished : goal.returns-clause-finished
returns-clause-finished g c = says_finished (request c.args.options.now c.args.spec.now c.args.input.now) (g.S.Sink.seen c.args.sink.now) (g.S.Sink.seen c.run_read.new.sink) c.run_read.result (c.run_read.ensures _ c.in_ok-read.ensures.read)

pub returns-clause-refused : goal.returns-clause-refused
returns-clause-refused g c = says_refused (request c.args.options.now c.args.spec.now c.args.input.now) (g.S.Sink.seen c.args.sink.now) (g.S.Sink.seen c.run_read.new.sink) c.run_read.result (c.run_read.ensures _ c.in_ok-read.ensures.read)

pub returns-clause-written : goal.returns-clause-written
returns-clause-written g c = says_written (request c.args.options.now c.args.spec.now c.args.input.now) (g.S.Sink.seen c.args.sink.now) (g.S.Sink.seen c.run_read.new.sink) c.run_read.result (c.run_read.ensures _ c.in_ok-read.ensures.read)

pub returns-clause-steady : goal.returns-clause-steady
returns-clause-steady g c = says_steady (request c.args.options.now c.args.spec.now c.args.input.now) (g.S.Sink.seen c.args.sink.now) (g.S.Sink.seen c.run_read.new.sink) c.run_read.result (c.run_read.ensures _ c.in_ok-read.ensures.read)

pub returns-clause-failed : goal.returns-clause-failed
returns-clause-failed g c = says_failed (request c.args.options.now c.args.spec.now c.args.input.now) (g.S.Sink.seen c.args.sink.now) (g.S.Sink.seen c.run_read.new.sink) c.run_read.result (c.run_read.ensures _ c.in_ok-read.ensures.read)
