use Rattle.std.proofs.Common.{◌-◌, ◌+◌, ◌≤◌, length}
use Rattle.pagespec.proofs.ModifierLoop.{ReadsOn}
use Rattle.pagespec.proofs.parsed.read_modifiers.Given as goal

abbrev pub invariant-loop : goal.invariant-loop
invariant-loop l = ReadsOn (l.end - l.counter) l.bytes l.rest l.modifiers × (length l.rest + l.counter ≤ length l.bytes)
