use Rattle.std.proofs.Common.{[], arith}
use Rattle.preview.specs.Ways.{with_sheet}
use Rattle.preview.proofs.Numbered.{fold_one, there}
use Rattle.preview.proofs.ways.different_ways.Goals as goal

pub loop-sheet-preserved : goal.loop-sheet-preserved
loop-sheet-preserved c =
    let here = there c.args.sheets.now c.loop-sheet.sheet (omega arith) in
    fold_one with_sheet [] _ _ c.args.sheets.now c.loop-sheet.sheet here.0 here.1
    c.loop-sheet.invariant (c.in_ok-note_sheet.ensures here.0 here.1)
