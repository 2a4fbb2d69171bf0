-- What was written is in the output, which didn't fail, and each turn writes a byte at least.
use Rattle.std.proofs.Common.{◌≡◌, ◌≤◌, ◌-◌, length, take}
use Rattle.std.specs.Io.KnownBytes.{Appends}
use Rattle.world.specs.Outputs.{IsSteady}
use Rattle.world.proofs.buffered.write_all.Given as goal

abbrev pub invariant-loop-written : goal.invariant-loop-written
invariant-loop-written g l = record {
  within : l.written ≤ length l.bytes;
  taken : Appends (g.T.Output.seen l.initial.output).bytes (g.T.Output.seen l.output).bytes (take l.written l.bytes);
  steady : IsSteady (g.T.Output.seen l.initial.output) (g.T.Output.seen l.output);
}

abbrev pub decreases-loop-written : goal.decreases-loop-written
decreases-loop-written g l = length l.bytes - l.written
