use Rattle.rules.specs.Sheets.{layout}
use Rattle.gather_table.specs.Homes.{closed_to}
use Rattle.gather_table.specs.Rule.{WordsHold}
use Rattle.gather_table.proofs.starting.close_blanks.Given as goal

abbrev pub invariant-loop-group : goal.invariant-loop-group
invariant-loop-group l = WordsHold (layout l.plan) (closed_to (layout l.plan) l.sheet l.group) l.words

abbrev pub invariant-loop-sheet : goal.invariant-loop-sheet
invariant-loop-sheet l = WordsHold (layout l.plan) (closed_to (layout l.plan) l.sheet 0) l.words
