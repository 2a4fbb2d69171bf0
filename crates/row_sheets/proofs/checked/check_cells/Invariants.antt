use Rattle.std.proofs.Common.{ℕ, ◌<◌}
use Rattle.rules.specs.Signatures.{entry_of}
use Rattle.row_sheets.specs.Shapes.{filling}
use Rattle.row_sheets.specs.Standing.{EntryFits}
use Rattle.row_sheets.proofs.checked.check_cells.Given as goal

abbrev pub invariant-loop-entry : goal.invariant-loop-entry
invariant-loop-entry l = (i : ℕ) → i < l.entry-index → EntryFits (filling l.setting l.papers) (entry_of l.row i)
