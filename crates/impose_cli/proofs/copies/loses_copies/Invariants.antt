use Rattle.std.proofs.Common.{◌≡◌, ◌+◌, ◌≤◌, length}
use Rattle.guard.specs.Setups.{tokens}
use Rattle.impose_cli.specs.Copies.{at_end, nothing}
use Rattle.impose_cli.proofs.copies.loses_copies.Given as goal

abbrev pub invariant-loop-token : goal.invariant-loop-token
invariant-loop-token l = record {
  procedures : l.asked.procedures + length l.rest ≤ length l.text;
  dictionaries : l.asked.dictionaries + length l.rest ≤ length l.text;
  so_far : at_end l.asked (tokens l.rest) ≡ at_end nothing (tokens l.text);
}

abbrev pub decreases-loop-token : goal.decreases-loop-token
decreases-loop-token l = length l.rest
