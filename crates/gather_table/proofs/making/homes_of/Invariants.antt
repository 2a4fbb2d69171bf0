use Rattle.rules.specs.Sheets.{layout}
use Rattle.gather_table.proofs.Placing.{Placed}
use Rattle.gather_table.proofs.making.homes_of.Given as goal

abbrev pub invariant-loop-sheet : goal.invariant-loop-sheet
invariant-loop-sheet l = Placed (layout l.plan) l.sheet l.homes.items l.next l.wide
