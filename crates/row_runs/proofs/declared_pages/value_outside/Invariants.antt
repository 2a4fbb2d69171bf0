use Rattle.std.proofs.Common.{◌≡◌, ◌≤◌, ◌+◌, length}
use Rattle.papers.specs.Media.{contents}
use Rattle.row_runs.specs.DeclaredPages.{pages_outside}
use Rattle.row_runs.proofs.declared_pages.value_outside.Given as goal

abbrev pub invariant-loop-rest : goal.invariant-loop-rest
invariant-loop-rest l = record {
  found : pages_outside l.depth (contents l.rest) ≡ pages_outside 0 (contents l.lines);
  few : l.depth + length l.rest ≤ length l.lines;
}

abbrev pub decreases-loop-rest : goal.decreases-loop-rest
decreases-loop-rest l = length l.rest
