use Rattle.std.proofs.Common.{◌≡◌, ℕ, ◌≤◌, None, ◌-◌, length}
use Rattle.sheet_writer.specs.Places.{has_come}
use Rattle.sheet_writer.specs.Writing.{GoesOn, AreEarly}
use Rattle.sheet_writer.proofs.writing.write_early.Given as goal

abbrev pub invariant-loop-progress : goal.invariant-loop-progress
invariant-loop-progress g l = record {
  going : l.progress.halted ≡ None;
  early : AreEarly l.job l.early.groups.items;
  goes_on : GoesOn l.job (g.S.Sink.seen l.initial.sink) (g.S.Sink.seen l.sink) l.initial.progress l.progress;
  stays : (sheet : ℕ) → l.progress.next ≤ sheet → has_come l.early sheet ≡ has_come l.initial.early sheet;
  steady : (g.S.Sink.seen l.sink).failures ≡ (g.S.Sink.seen l.initial.sink).failures;
}

abbrev pub decreases-loop-progress : goal.decreases-loop-progress
decreases-loop-progress g l = length l.job.plan.sheets - l.progress.next
