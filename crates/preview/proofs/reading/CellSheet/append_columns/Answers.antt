use Rattle.std.proofs.Common.{refl}
use Rattle.sheet_plan.specs.OfSheets.{slots_at}
use Rattle.preview.specs.Listing.{cell_text_at}
use Rattle.preview.proofs.Cuts.{next_text}
use Rattle.preview.proofs.reading.CellSheet.append_columns.Goals as goal

pub loop-column-preserved : goal.loop-column-preserved
loop-column-preserved c =
    let cells = c.args.self.now in
    next_text (cell_text_at (slots_at cells.sheets.now cells.number) cells.order cells.grid c.args.row) c.loop-column.column
    c.args.out.now.items _ _ _ c.loop-column.invariant c.in_ok-append_cell.ensures refl
