use Rattle.std.proofs.Common.{◌≡◌, ◌+◌, length, drop}
use Rattle.sheet_text.proofs.Ropes.{bytes_of}
use Rattle.sheet_text.proofs.rope.Pieces.len.Given as goal

abbrev pub invariant-loop-nth : goal.invariant-loop-nth
invariant-loop-nth l = l.count + bytes_of (drop l.nth l.self-inside.slices.now) ≡ length l.self
