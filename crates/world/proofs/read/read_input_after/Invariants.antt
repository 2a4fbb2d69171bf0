-- What was filled is the room and what the source gave, and each turn fills a byte more or ends.
use Rattle.std.proofs.Common.{◌≡◌, ◌≤◌, ◌+◌, ◌-◌, vec_len, vec_items, take, drop, replicate}
use Rattle.std.specs.Io.KnownBytes.{Consumes}
use Rattle.world.specs.declared.read.TheConstants.{MOST_BYTES}
use Rattle.world.proofs.read.read_input_after.Given as goal

abbrev pub invariant-loop-filled : goal.invariant-loop-filled
invariant-loop-filled g l = record {
  total : l.most ≡ l.room + MOST_BYTES;
  begun : l.room ≤ l.filled;
  within : l.filled ≤ vec_len l.bytes;
  most : vec_len l.bytes ≤ l.most;
  steady : (g.S.Source.seen l.source).failures ≡ (g.S.Source.seen l.initial.source).failures;
  front : take l.room (vec_items l.bytes) ≡ replicate l.room 0;
  moved : Consumes (g.S.Source.seen l.initial.source).bytes (g.S.Source.seen l.source).bytes (drop l.room (take l.filled (vec_items l.bytes)));
}

abbrev pub decreases-loop-filled : goal.decreases-loop-filled
decreases-loop-filled g l = l.most - l.filled
