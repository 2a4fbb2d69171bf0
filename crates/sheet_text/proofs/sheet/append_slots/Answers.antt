use Rattle.std.proofs.Common.{ap, length, ◌∙◌}
use Rattle.rules.specs.Sheets.{Plan}
use Rattle.sheet_plan.specs.Plans.{pages_on}
use Rattle.sheet_text.proofs.sheet.append_slots.Goals as goal
use Rattle.sheet_text.proofs.Slots.{slots_turn}

pub loop-slot-preserved : goal.loop-slot-preserved
loop-slot-preserved c =
    slots_turn c.args.job.now c.args.sheet c.loop-slot.slot _ _ _ _ c.plan.ensures.sheets
    (c.slots-slot-end.ensures.value ∙ ap (λ (plan : Plan). length (pages_on plan c.args.sheet)) c.plan.ensures.value)
    c.loop-slot-test.true c.loop-slot.invariant c.in_ok-append_slot.ensures
