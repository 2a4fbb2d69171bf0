use Rattle.std.proofs.Common.{rules, ◌∙◌, ap, subst, sym}
use Rattle.sheet_writer.specs.Writing.{IsProgress}
use Rattle.imposer.specs.CollectorStart.{ArePartsOf}
use Rattle.sheet_writer.proofs.Fronts.{header_handed}
use Rattle.imposer.proofs.collector.RunInputCollectorCollectorState.collect.Goals as goal
use Rattle.imposer.proofs.collector.RunInputCollectorCollectorState.collect.Goals.{in-None, in-Some+then-not-take_turn}

pub loop-init : goal.loop-init
loop-init g c =
    let d = c.args.state.now in record {
      can_next = search rules;
      is_finite = search rules;
      ticket = search rules;
      going = search rules;
      same = search rules;
      countable = search rules;
      progress = header_handed c.args.self.now.shared.now.objects.job.now (g.S.Sink.seen d.sink.now) (g.S.Sink.seen c.write_text-state.new.sink) d.progress c.write_text-state.result c.as_slice.result.now (ap (λ q. q.written) c.requires.2)
          (c.write_text-state.ensures.next ∙ ap (λ q. q.next) c.requires.2) (c.as_slice.ensures.value ∙ c.requires.1.header) c.write_text-state.ensures.handed;
      parts = search rules;
    }

pub loop-preserved : goal.loop-preserved
loop-preserved g c = record {
  can_next = search rules;
  is_finite = search rules;
  ticket = c.take_turn.ensures.ticket;
  going = c.take_turn.ensures.going (search rules);
  same = c.take_turn.ensures.same ∙ c.loop.invariant.same;
  countable = search rules;
  progress = c.take_turn.ensures.goes_on _ c.loop.invariant.progress;
  parts = c.take_turn.ensures.parts;
}

pub returns-clause-collected : goal.returns-clause-collected
returns-clause-collected g c =
    let job = c.args.self.now.shared.now.objects.job.now in
    let start = g.S.Sink.seen c.args.state.now.sink.now in
    elim c.match-next.branch [
      | in-None w ↦
          subst (λ d. IsProgress job start (g.S.Sink.seen d.sink.now) d.progress × ArePartsOf job d.parts.now)
          (sym w.state-is) (c.loop.invariant.progress, c.loop.invariant.parts)
      | in-Some+then-not-take_turn w ↦
          subst (λ d. IsProgress job start (g.S.Sink.seen d.sink.now) d.progress × ArePartsOf job d.parts.now)
          (sym w.state-is) (w.take_turn.ensures.goes_on _ c.loop.invariant.progress, w.take_turn.ensures.parts)
    ]
