use Rattle.std.proofs.Common.{◌≡◌, ◌++◌, length}
use Rattle.sheet_text.proofs.rope.Rope.to_vec.Given as goal

abbrev pub invariant-loop-piece : goal.invariant-loop-piece
invariant-loop-piece l = l.copy.items ++ l.pieces ≡ l.self

abbrev pub decreases-loop-piece : goal.decreases-loop-piece
decreases-loop-piece l = length l.pieces
