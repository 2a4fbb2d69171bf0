use Rattle.std.proofs.Common.{◌∙◌, ◌++◌, ap, append_assoc, take}
use Rattle.sheet_plan.specs.OfSheets.{slots_at}
use Rattle.impose_messages.specs.Scales.{extremes, scale_in, scales_in}
use Rattle.impose_messages.proofs.OneByOne.{flat_one}
use Rattle.impose_messages.proofs.scales.with_sheet.Goals as goal

pub loop-slot-preserved : goal.loop-slot-preserved
loop-slot-preserved c = λ seen before.
    let slots = slots_at c.args.sheets.now c.args.sheet in
    let earlier = scales_in (take c.loop-slot.slot slots) in
    c.with_slot-scales.ensures (seen ++ earlier) (c.loop-slot.invariant seen before)
    ∙ ap extremes (append_assoc seen earlier _ ∙ ap (λ more. seen ++ more) (flat_one scale_in slots c.loop-slot.slot _ c.placed.ensures))
