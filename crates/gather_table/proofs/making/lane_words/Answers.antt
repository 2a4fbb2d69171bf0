use Rattle.std.proofs.Common.{arith, ◌≤◌, length, sym, ap, ◌∙◌}
use Rattle.rules.specs.Sheets.{layout}
use Rattle.gather_table.specs.declared.lane.Lane.{Lane}
use Rattle.gather_table.proofs.Blanks.{sheets_of, sheet_in, sound_of}
use Rattle.gather_table.proofs.Placing.{may_fit, word_below}
use Rattle.gather_table.proofs.making.lane_words.Goals as goal

pub fit-next-requires : goal.fit-next-requires
fit-next-requires c =
    let shape = layout c.args.plan.now in
    let lt = sheet_in c.args.plan.now c.loop-sheet.sheet _ c.sheets-sheet-end.ensures.value c.loop-sheet-test.true in
    may_fit shape (sound_of c.args.plan.now c.sheets-sheet-end.ensures.sound) c.loop-sheet.sheet _ _ _ lt c.loop-sheet.invariant c.slots.ensures.value c.lane_width-width.ensures

pub overflow_add-result : goal.overflow_add-result
overflow_add-result c =
    let shape = layout c.args.plan.now in
    let end = c.sheets-sheet-end.ensures.value ∙ sym (sheets_of c.args.plan.now) in
    let le : c.loop-sheet.sheet ≤ length shape.sheets = let t = c.loop-sheet.auto.sheet-end in omega arith in
    let few = (sound_of c.args.plan.now c.sheets-sheet-end.ensures.sound).few_sheets in
    let w = word_below shape c.loop-sheet.sheet le in
    let word = ap (λ (z : Lane). z.word) c.loop-sheet.invariant in
    omega arith
