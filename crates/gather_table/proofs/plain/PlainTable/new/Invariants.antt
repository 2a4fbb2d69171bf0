use Rattle.rules.specs.Sheets.{layout}
use Rattle.gather_table.proofs.Stored.{AreStarts}
use Rattle.gather_table.proofs.plain.PlainTable.new.Given as goal

abbrev pub invariant-loop-sheet : goal.invariant-loop-sheet
invariant-loop-sheet l = AreStarts (layout l.plan) l.sheet l.marked.items l.firsts.items l.closed.items
