use Rattle.std.proofs.Common.{length, ◌-◌, ◌≡◌, ◌≤◌, take}
use Rattle.std.specs.Io.KnownBytes.{Appends}
use Rattle.sheet_writer.proofs.sink.write_all.Given as goal

abbrev pub invariant-loop-written : goal.invariant-loop-written
invariant-loop-written g l = record {
  within : l.written ≤ length l.bytes;
  taken : Appends (g.S.Sink.seen l.initial.sink).bytes (g.S.Sink.seen l.sink).bytes (take l.written l.bytes);
  steady : (g.S.Sink.seen l.sink).failures ≡ (g.S.Sink.seen l.initial.sink).failures;
}

abbrev pub decreases-loop-written : goal.decreases-loop-written
decreases-loop-written g l = length l.bytes - l.written
