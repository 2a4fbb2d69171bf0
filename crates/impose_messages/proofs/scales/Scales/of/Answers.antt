use Rattle.std.proofs.Common.{◌∙◌, List, ◌++◌, ap, arith, take}
use Rattle.std.specs.Prelude.{flat_map}
use Rattle.rules.specs.Made.{MadeSheet, MadeSlot}
use Rattle.impose_messages.specs.Scales.{extremes, scales_in}
use Rattle.impose_messages.proofs.OneByOne.{flat_one, slots_are, there}
use Rattle.impose_messages.proofs.scales.Scales.of.Goals as goal

pub loop-sheet-preserved : goal.loop-sheet-preserved
loop-sheet-preserved c =
    let all = c.args.sheets.now in
    let here = there all c.loop-sheet.sheet (omega arith) in
    let seen = flat_map (λ (sheet : MadeSheet). scales_in sheet.slots) (take c.loop-sheet.sheet all) in
    c.with_sheet-scales.ensures seen c.loop-sheet.invariant
    ∙ ap (λ (slots : List MadeSlot). extremes (seen ++ scales_in slots)) (slots_are all c.loop-sheet.sheet here.0 here.1)
    ∙ ap extremes (flat_one (λ (sheet : MadeSheet). scales_in sheet.slots) all c.loop-sheet.sheet here.0 here.1)
