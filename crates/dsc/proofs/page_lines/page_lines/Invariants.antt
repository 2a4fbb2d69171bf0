use Rattle.std.proofs.Common.{◌≡◌, ◌≤◌, length}
use Rattle.dsc.proofs.CountingPages.{count_on}
use Rattle.dsc.proofs.page_lines.page_lines.Given as goal

abbrev pub invariant-loop-walk : goal.invariant-loop-walk
invariant-loop-walk l = record {
  few : l.count ≤ l.walk.at;
  so_far : count_on l.count l.walk.depth l.walk.at l.walk.rest ≡ count_on 0 0 0 l.text;
}

abbrev pub decreases-loop-walk : goal.decreases-loop-walk
decreases-loop-walk l = length l.walk.rest
