use Rattle.sheet_plan.specs.OfSheets.{slots_at}
use Rattle.preview.specs.Ways.{with_slot}
use Rattle.preview.proofs.Numbered.{fold_one}
use Rattle.preview.proofs.ways.note_slots.Goals as goal

pub loop-slot-preserved : goal.loop-slot-preserved
loop-slot-preserved c =
    fold_one (with_slot c.args.paper.now) c.args.ways.now.items _ _ (slots_at c.args.sheets.now c.args.sheet) c.loop-slot.slot _ c.placed.ensures
    c.loop-slot.invariant c.in_ok-note_slot.ensures
