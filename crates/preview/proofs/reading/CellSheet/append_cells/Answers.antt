use Rattle.std.proofs.Common.{refl}
use Rattle.sheet_plan.specs.OfSheets.{slots_at}
use Rattle.preview.specs.Listing.{row_cells_text}
use Rattle.preview.proofs.Cuts.{next_text}
use Rattle.preview.proofs.reading.CellSheet.append_cells.Goals as goal

pub loop-row-preserved : goal.loop-row-preserved
loop-row-preserved c =
    let cells = c.args.self.now in
    next_text (row_cells_text (slots_at cells.sheets.now cells.number) cells.order cells.grid) c.loop-row.row c.args.out.now.items _ _ _
    c.loop-row.invariant c.in_ok-append_row.ensures refl
