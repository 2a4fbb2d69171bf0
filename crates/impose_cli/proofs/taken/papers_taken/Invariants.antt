use Rattle.std.proofs.Common.{◌≡◌, take}
use Rattle.impose_cli.specs.RowTasks.{taken_from}
use Rattle.impose_cli.proofs.taken.papers_taken.Given as goal

abbrev pub invariant-loop-page : goal.invariant-loop-page
invariant-loop-page l = l.papers.items ≡ taken_from l.row l.other 0 (take l.page l.own)
