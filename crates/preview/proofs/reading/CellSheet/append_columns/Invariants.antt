use Rattle.std.proofs.Common.{◌≡◌, ◌++◌}
use Rattle.sheet_plan.specs.OfSheets.{slots_at}
use Rattle.preview.specs.Listing.{cell_text_at}
use Rattle.preview.specs.Naming.{each}
use Rattle.preview.proofs.reading.CellSheet.append_columns.Given as goal

abbrev pub invariant-loop-column : goal.invariant-loop-column
invariant-loop-column l = l.out.items
    ≡ l.initial.out.items ++ each (cell_text_at (slots_at l.self.sheets.now l.self.number) l.self.order l.self.grid l.row) 0 l.column
