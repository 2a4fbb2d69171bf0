use Rattle.std.proofs.Common.{arith}
use Rattle.preview.specs.Listing.{row_text}
use Rattle.preview.proofs.Cuts.{one_text}
use Rattle.preview.proofs.listing.append_rows.Goals as goal

pub loop-row-preserved : goal.loop-row-preserved
loop-row-preserved c =
    one_text (row_text c.args.reading.now c.args.sheets.now) c.args.first c.loop-row.row c.args.out.now.items _ _ (omega arith)
    c.loop-row.invariant c.in_ok-append_row.ensures
