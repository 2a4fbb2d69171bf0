use Rattle.std.proofs.Common.{arith, ◌+◌, List, length, sym, ◌∙◌, subst}
use Rattle.rules.specs.Sheets.{layout}
use Rattle.gather_table.specs.declared.lane.Home.{Home}
use Rattle.gather_table.proofs.Blanks.{sheets_of, sheet_in, sound_of}
use Rattle.gather_table.proofs.Placing.{Placed, more_placed, may_fit, lane_ends, lane_low, wide_fits, word_below, all_placed}
use Rattle.gather_table.proofs.making.homes_of.Goals as goal

pub overflow_add-wide : goal.overflow_add-wide
overflow_add-wide c =
    let shape = layout c.args.plan.now in
    let ok = sound_of c.args.plan.now c.pages-pages.ensures.sound in
    let pages = c.pages-pages.ensures.value in
    let few_pages = ok.few_pages in
    let few_sheets = ok.few_sheets in
    let w = word_below shape (length shape.sheets) (omega arith) in
    let words = c.lane_words.ensures in
    omega arith

pub fit-next-requires : goal.fit-next-requires
fit-next-requires c =
    let shape = layout c.args.plan.now in
    let lt = sheet_in c.args.plan.now c.loop-sheet.sheet _ c.sheets-sheet-end.ensures.value c.loop-sheet-test.true in
    may_fit shape (sound_of c.args.plan.now c.pages-pages.ensures.sound) c.loop-sheet.sheet _ _ _ lt c.loop-sheet.invariant.next_is c.slots-slots.ensures.value c.lane_width-width.ensures

pub home_at-requires : goal.home_at-requires
home_at-requires c =
    let shape = layout c.args.plan.now in
    let ok = sound_of c.args.plan.now c.pages-pages.ensures.sound in
    let lt = sheet_in c.args.plan.now c.loop-sheet.sheet _ c.sheets-sheet-end.ensures.value c.loop-sheet-test.true in
    let pages = c.pages-pages.ensures.value in
    let few_pages = ok.few_pages in
    (omega arith, lane_low shape ok c.loop-sheet.sheet _ _ _ _ lt c.loop-sheet.invariant.next_is c.slots-slots.ensures.value c.lane_width-width.ensures c.fit-next.ensures)

pub overflow_add-next : goal.overflow_add-next
overflow_add-next c =
    let shape = layout c.args.plan.now in
    let lt = sheet_in c.args.plan.now c.loop-sheet.sheet _ c.sheets-sheet-end.ensures.value c.loop-sheet-test.true in
    let fits = may_fit shape (sound_of c.args.plan.now c.pages-pages.ensures.sound) c.loop-sheet.sheet _ _ _ lt c.loop-sheet.invariant.next_is c.slots-slots.ensures.value c.lane_width-width.ensures in
    let ends = lane_ends _ _ _ fits.0 fits.1 c.fit-next.ensures in
    omega arith

pub overflow_add-wide-in-loop-sheet : goal.overflow_add-wide-in-loop-sheet
overflow_add-wide-in-loop-sheet c =
    let shape = layout c.args.plan.now in
    let ok = sound_of c.args.plan.now c.pages-pages.ensures.sound in
    let lt = sheet_in c.args.plan.now c.loop-sheet.sheet _ c.sheets-sheet-end.ensures.value c.loop-sheet-test.true in
    let fits = wide_fits shape ok c.loop-sheet.sheet _ _ _ lt c.loop-sheet.invariant.wide_is c.slots-slots.ensures.value c.own_words-wide.ensures in
    omega arith

pub loop-sheet-preserved : goal.loop-sheet-preserved
loop-sheet-preserved c =
    let shape = layout c.args.plan.now in
    let lt = sheet_in c.args.plan.now c.loop-sheet.sheet _ c.sheets-sheet-end.ensures.value c.loop-sheet-test.true in
    subst (λ (homes : List Home). Placed shape (c.loop-sheet.sheet + 1) homes (record { word = c.fit-next.result.word; first = c.fit-next.result.first + c.lane_width-width.result }) (c.loop-sheet.wide + c.own_words-wide.result)) (sym {A = List Home} c.in_ok-push.ensures.items)
    (more_placed shape c.loop-sheet.sheet _ _ _ _ _ _ _ _ _ lt c.loop-sheet.invariant c.pages-pages.ensures.value c.slots-slots.ensures.value c.lane_width-width.ensures c.fit-next.ensures c.home_at.ensures c.own_words-wide.ensures)

pub returns-clause-homes : goal.returns-clause-homes
returns-clause-homes c =
    (all_placed (layout c.args.plan.now) c.loop-sheet.sheet _ _ _ (let end = c.sheets-sheet-end.ensures.value ∙ sym (sheets_of c.args.plan.now) in let t = c.loop-sheet-test.false in let u = c.loop-sheet.auto.sheet-end in omega arith) c.loop-sheet.invariant).0

pub returns-clause-words : goal.returns-clause-words
returns-clause-words c =
    (all_placed (layout c.args.plan.now) c.loop-sheet.sheet _ _ _ (let end = c.sheets-sheet-end.ensures.value ∙ sym (sheets_of c.args.plan.now) in let t = c.loop-sheet-test.false in let u = c.loop-sheet.auto.sheet-end in omega arith) c.loop-sheet.invariant).1
