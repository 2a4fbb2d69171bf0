use Rattle.std.proofs.Common.{◌∙◌, ap, arith, length}
use Rattle.rules.specs.Sheets.{Plan}
use Rattle.sheet_plan.specs.Plans.{pages_on}
use Rattle.sheet_text.proofs.Rooming.{room_turn}
use Rattle.sheet_text.proofs.sheet.likely_len.Goals as goal

pub loop-slot-preserved : goal.loop-slot-preserved
loop-slot-preserved c =
    room_turn c.args.job.now c.args.sheet c.loop-slot.slot _ 64 c.loop-slot.len c.likely_slot_len.result _ c.plan.ensures.sheets
    (c.slots-slot-end.ensures.value ∙ ap (λ (plan : Plan). length (pages_on plan c.args.sheet)) c.plan.ensures.value)
    c.loop-slot-test.true c.loop-slot.invariant c.likely_slot_len.ensures (omega (arith, c.saturating_add-len.ensures))
