use Rattle.std.proofs.Common.{◌≡◌, take}
use Rattle.impose_cli.specs.RowTasks.{row_papers}
use Rattle.impose_cli.proofs.taken.papers_on_row.Given as goal

abbrev pub invariant-loop-entry : goal.invariant-loop-entry
invariant-loop-entry l = l.papers.items ≡ row_papers (take l.entry-index l.row) l.own
