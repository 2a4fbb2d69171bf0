use Rattle.std.proofs.Common.{◌≡◌, None}
use Rattle.crossbeam_channel.specs.Claims.{IsSeatAt}
use Rattle.crossbeam_channel.specs.Ends.{receives_on}
use Rattle.sheet_writer.specs.Sinks.{IsCountable}
use Rattle.sheet_writer.specs.Writing.{IsProgress}
use Rattle.imposer.specs.CollectorStart.{ArePartsOf}
use Rattle.imposer.proofs.collector.RunInputCollectorCollectorState.collect.Given as goal

abbrev pub invariant-loop : goal.invariant-loop
invariant-loop g l = record {
  can_next : (goal.iterator-loop g).can_next l.iterator';
  is_finite : (goal.iterator-loop g).is_finite l.iterator';
  ticket : IsSeatAt (receives_on l.self.channel.now.receiver) l.state.parts.now.receiving;
  going : l.state.progress.halted ≡ None;
  same : l.state.sink.ghost_name ≡ l.fn.state.sink.ghost_name;
  countable : IsCountable (g.S.Sink.seen l.state.sink.now);
  progress : IsProgress l.self.shared.now.objects.job.now (g.S.Sink.seen l.fn.state.sink.now) (g.S.Sink.seen l.state.sink.now) l.state.progress;
  parts : ArePartsOf l.self.shared.now.objects.job.now l.state.parts.now;
}
