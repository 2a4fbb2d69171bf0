use Rattle.std.proofs.Common.{◌≡◌, map, take}
use Rattle.row_sheets.specs.RowSheets.{selected_sheet}
use Rattle.row_sheets.proofs.selecting.select.Given as goal

abbrev pub invariant-loop-entry : goal.invariant-loop-entry
invariant-loop-entry l = l.made ≡ map (selected_sheet l.papers l.blank) (take l.entry-index l.row)
