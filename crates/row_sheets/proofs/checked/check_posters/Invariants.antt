use Rattle.std.proofs.Common.{ℕ, ◌<◌}
use Rattle.rules.specs.Signatures.{entry_of}
use Rattle.row_sheets.specs.Posters.{EntryMayBePoster}
use Rattle.row_sheets.proofs.checked.check_posters.Given as goal

abbrev pub invariant-loop-entry : goal.invariant-loop-entry
invariant-loop-entry l = (i : ℕ) → i < l.entry-index → EntryMayBePoster l.poster l.papers (entry_of l.row i)
