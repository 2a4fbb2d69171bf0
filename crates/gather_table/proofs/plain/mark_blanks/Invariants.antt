use Rattle.std.specs.Prelude.{◌≡◌}
use Rattle.rules.specs.Sheets.{layout}
use Rattle.gather_table.specs.Plain.{blank_groups, AreBlanks}
use Rattle.gather_table.proofs.plain.mark_blanks.Given as goal

abbrev pub invariant-loop-group : goal.invariant-loop-group
invariant-loop-group l = AreBlanks (layout l.plan) l.sheet l.group l.marked.items × (l.closed ≡ blank_groups (layout l.plan) l.sheet l.group)
