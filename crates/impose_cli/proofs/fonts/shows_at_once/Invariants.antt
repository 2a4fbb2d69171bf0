use Rattle.std.proofs.Common.{◌≡◌, ◌+◌, ◌≤◌, length}
use Rattle.guard.specs.Setups.{tokens}
use Rattle.impose_cli.specs.Fonts.{shows_first}
use Rattle.impose_cli.proofs.fonts.shows_at_once.Given as goal

abbrev pub invariant-loop-token : goal.invariant-loop-token
invariant-loop-token l = record {
  few : l.depth + length l.rest ≤ length l.page;
  so_far : shows_first l.depth (tokens l.rest) ≡ shows_first 0 (tokens l.page);
}

abbrev pub decreases-loop-token : goal.decreases-loop-token
decreases-loop-token l = length l.rest
