-- What was filled is what the source gave, and each turn fills a byte more or ends.
use Rattle.std.proofs.Common.{◌≡◌, ◌≤◌, ◌-◌, length, take}
use Rattle.std.specs.Io.KnownBytes.{Consumes}
use Rattle.world.proofs.front.read_front.Given as goal

abbrev pub invariant-loop-filled : goal.invariant-loop-filled
invariant-loop-filled g l = record {
  within : l.filled ≤ length l.buffer;
  steady : (g.S.Source.seen l.source).failures ≡ (g.S.Source.seen l.initial.source).failures;
  moved : Consumes (g.S.Source.seen l.initial.source).bytes (g.S.Source.seen l.source).bytes (take l.filled l.buffer);
}

abbrev pub decreases-loop-filled : goal.decreases-loop-filled
decreases-loop-filled g l = length l.buffer - l.filled
