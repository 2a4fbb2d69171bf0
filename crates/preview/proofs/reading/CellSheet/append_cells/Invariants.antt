use Rattle.std.proofs.Common.{◌≡◌, ◌++◌}
use Rattle.sheet_plan.specs.OfSheets.{slots_at}
use Rattle.preview.specs.Listing.{row_cells_text}
use Rattle.preview.specs.Naming.{each}
use Rattle.preview.proofs.reading.CellSheet.append_cells.Given as goal

abbrev pub invariant-loop-row : goal.invariant-loop-row
invariant-loop-row l = l.out.items
    ≡ l.initial.out.items ++ each (row_cells_text (slots_at l.self.sheets.now l.self.number) l.self.order l.self.grid) 0 l.row
