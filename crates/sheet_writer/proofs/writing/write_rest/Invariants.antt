use Rattle.std.proofs.Common.{◌≡◌, None, ◌-◌, ◌≤◌}
use Rattle.sheet_writer.specs.Writing.{GoesOn}
use Rattle.sheet_writer.specs.Places.{not_come}
use Rattle.sheet_writer.proofs.writing.write_rest.Given as goal

abbrev pub invariant-loop : goal.invariant-loop
invariant-loop g l = record {
  going : l.progress.halted ≡ None;
  next : l.progress.next ≡ l.counter;
  goes_on : GoesOn l.job (g.S.Sink.seen l.initial.sink) (g.S.Sink.seen l.sink) l.initial.progress l.progress;
  steady : (g.S.Sink.seen l.sink).failures ≡ (g.S.Sink.seen l.initial.sink).failures;
  swept : l.progress.swept ≤ l.counter;
  first : l.initial.progress.next ≤ l.counter;
  counted : l.progress.swept ≡ not_come l.early l.initial.progress.next (l.counter - l.initial.progress.next);
}
