use Rattle.std.proofs.Common.{◌≡◌, ◌≤◌}
use Rattle.impose_cli.specs.Taken.{taken_below}
use Rattle.impose_cli.proofs.taken.taken_count.Given as goal

abbrev pub invariant-loop-page : goal.invariant-loop-page
invariant-loop-page l = record {
  few : l.count ≤ l.page;
  sum : l.count ≡ taken_below l.row l.page;
}
