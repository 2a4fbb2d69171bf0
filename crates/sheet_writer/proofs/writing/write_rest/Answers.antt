use Rattle.std.proofs.Common.{rules, arith, ap, ◌+◌, ◌∙◌}
use Rattle.std.proofs.Common.{if◌then◌else◌}
use Rattle.sheet_writer.specs.Places.{has_come}
use Rattle.sheet_writer.proofs.Fronts.{halted_ends, trailer_handed}
use Rattle.sheet_writer.proofs.Places.{count_next}
use Rattle.sheet_writer.proofs.writing.write_rest.Goals as goal

pub returns-then-is_some-clause-ended : goal.returns-then-is_some-clause-ended
returns-then-is_some-clause-ended g c = λ start stands. halted_ends c.args.job.now start _ c.args.progress (search rules) stands

pub returns-then-is_some-2-clause-ended : goal.returns-then-is_some-2-clause-ended
returns-then-is_some-2-clause-ended g c = λ start stands.
    halted_ends c.args.job.now start _ c.write_next-progress.result (search rules) (c.write_next-progress.ensures.goes_on start (c.loop.invariant.goes_on start stands))

pub loop-preserved : goal.loop-preserved
loop-preserved g c = record {
  going = search rules;
  next = search rules;
  goes_on = λ start stands. c.write_next-progress.ensures.goes_on start (c.loop.invariant.goes_on start stands);
  steady = search rules;
  swept = search rules;
  first = (let f = c.loop.invariant.first in omega (arith, f));
  counted =
      c.write_next-progress.ensures.swept
      ∙ ap (λ n. c.loop.progress.swept + (if has_come c.args.early.now n then 0 else 1)) c.loop.invariant.next
      ∙ count_next c.args.early.now c.args.progress.next c.loop.counter c.loop.progress.swept c.loop.invariant.first c.loop.invariant.counted;
}

pub returns-clause-ended : goal.returns-clause-ended
returns-clause-ended g c = λ start stands.
    trailer_handed c.args.job.now start (g.S.Sink.seen c.loop.sink) _ c.loop.progress c.write_text.result c.args.trailer.now (search rules) c.requires.trailer
    c.loop.invariant.going c.write_text.ensures.handed (c.loop.invariant.goes_on start stands)
