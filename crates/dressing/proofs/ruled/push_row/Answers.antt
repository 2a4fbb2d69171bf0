use Rattle.dressing.specs.Ruled.{note_line}
use Rattle.dressing.proofs.RowByRow.{one_line}
use Rattle.dressing.proofs.ruled.push_row.Goals as goal

pub loop-before-preserved : goal.loop-before-preserved
loop-before-preserved c =
    one_line (note_line c.args.room.now c.args.grid c.args.row) c.args.lines.now.items _ _ c.loop-before.before _ c.loop-before.invariant c.in_ok-push.ensures.items c.note_line.ensures
