use Rattle.std.proofs.Common.{◌≡◌, ◌+◌, ◌≤◌, length}
use Rattle.guard.specs.Setups.{at_end, outermost, tokens}
use Rattle.guard.proofs.setup.places_pages.Given as goal

abbrev pub invariant-loop-token : goal.invariant-loop-token
invariant-loop-token l = record {
  procedures : l.level.procedures + length l.rest ≤ length l.text;
  saves : l.level.saves + length l.rest ≤ length l.text;
  so_far : at_end l.level (tokens l.rest) ≡ at_end outermost (tokens l.text);
}

abbrev pub decreases-loop-token : goal.decreases-loop-token
decreases-loop-token l = length l.rest
