use Rattle.std.proofs.Common.{◌≡◌}
use Rattle.sheet_text.proofs.openings.Openings.append_kept.Given as goal

abbrev pub invariant-loop-opening : goal.invariant-loop-opening
invariant-loop-opening l = l.out ≡ l.fn.out
