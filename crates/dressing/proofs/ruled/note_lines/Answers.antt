use Rattle.dressing.specs.Ruled.{row_lines}
use Rattle.dressing.proofs.RowByRow.{one_row}
use Rattle.dressing.proofs.ruled.note_lines.Goals as goal

pub loop-row-preserved : goal.loop-row-preserved
loop-row-preserved c = one_row (row_lines c.args.room.now c.args.grid) _ _ c.loop-row.row c.loop-row.invariant c.in_ok-push_row.ensures
