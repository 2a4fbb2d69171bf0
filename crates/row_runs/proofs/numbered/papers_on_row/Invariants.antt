use Rattle.std.proofs.Common.{◌≡◌, map, take}
use Rattle.row_runs.specs.Numbers.{paper_in}
use Rattle.row_runs.proofs.numbered.papers_on_row.Given as goal

abbrev pub invariant-loop-entry : goal.invariant-loop-entry
invariant-loop-entry l = l.own.items ≡ map (paper_in l.papers l.other) (take l.entry-index l.row)
