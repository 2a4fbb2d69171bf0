use Rattle.std.proofs.Common.{arith, ◌≡◌, ◌+◌, ℕ, suc, sym, ◌∙◌, subst}
use Rattle.rules.specs.Sheets.{layout}
use Rattle.gather_table.specs.Homes.{closed_to}
use Rattle.gather_table.specs.Rule.{WordsHold}
use Rattle.gather_table.proofs.Blanks.{sheets_of, sheet_in, sound_of}
use Rattle.gather_table.proofs.FirstClosings.{group_more, has_group, few_of, none_closed, next_sheet, all_closed}
use Rattle.gather_table.proofs.starting.close_blanks.Goals as goal

pub loop-sheet-init : goal.loop-sheet-init
loop-sheet-init c = none_closed (layout c.args.plan.now) _ c.requires.blanks

pub bounds-homes-sheet : goal.bounds-homes-sheet
bounds-homes-sheet c =
    let lt = sheet_in c.args.plan.now c.loop-sheet.sheet _ c.sheets-sheet-end.ensures.value c.loop-sheet-test.true in
    let count = c.requires.homes.count in omega arith

pub closing_bits-group-end-requires : goal.closing_bits-group-end-requires
closing_bits-group-end-requires c =
    let shape = layout c.args.plan.now in
    let s = c.loop-sheet.sheet in
    let lt = sheet_in c.args.plan.now s _ c.sheets-sheet-end.ensures.value c.loop-sheet-test.true in
    few_of shape s _ (sound_of c.args.plan.now c.sheets-sheet-end.ensures.sound) lt (c.requires.homes.each s _ lt)

pub close_full-requires-clause-sound : goal.close_full-requires-clause-sound
close_full-requires-clause-sound c = sound_of c.args.plan.now c.sheets-sheet-end.ensures.sound

pub close_full-requires-clause-group : goal.close_full-requires-clause-group
close_full-requires-clause-group c =
    let shape = layout c.args.plan.now in
    let s = c.loop-sheet.sheet in
    let lt = sheet_in c.args.plan.now s _ c.sheets-sheet-end.ensures.value c.loop-sheet-test.true in
    has_group shape s c.loop-group.group _ _ (c.requires.homes.each s _ lt) lt c.closing_bits-group-end.ensures c.loop-group-test.true

pub close_full-requires-clause-home : goal.close_full-requires-clause-home
close_full-requires-clause-home c = c.requires.homes.each c.loop-sheet.sheet _ (sheet_in c.args.plan.now _ _ c.sheets-sheet-end.ensures.value c.loop-sheet-test.true)

pub loop-group-preserved : goal.loop-group-preserved
loop-group-preserved c =
    let shape = layout c.args.plan.now in
    let s = c.loop-sheet.sheet in
    let g = c.loop-group.group in
    let lt = sheet_in c.args.plan.now s _ c.sheets-sheet-end.ensures.value c.loop-sheet-test.true in
    let one : suc g ≡ g + 1 = omega arith in
    subst (λ (k : ℕ). WordsHold shape (closed_to shape s k) c.close_full.new.words) one
    (group_more shape c.close_full.new.words s g (has_group shape s g _ _ (c.requires.homes.each s _ lt) lt c.closing_bits-group-end.ensures c.loop-group-test.true) (c.close_full.ensures.closed (closed_to shape s g) c.loop-group.invariant))

pub loop-sheet-preserved : goal.loop-sheet-preserved
loop-sheet-preserved c =
    let shape = layout c.args.plan.now in
    let s = c.loop-sheet.sheet in
    let lt = sheet_in c.args.plan.now s _ c.sheets-sheet-end.ensures.value c.loop-sheet-test.true in
    next_sheet shape _ s _ _ _ (c.requires.homes.each s _ lt) c.closing_bits-group-end.ensures c.loop-group-test.false c.loop-group.invariant

pub returns : goal.returns
returns c = record { start = all_closed (layout c.args.plan.now) _ c.loop-sheet.sheet (let end = c.sheets-sheet-end.ensures.value ∙ sym (sheets_of c.args.plan.now) in let t = c.loop-sheet-test.false in omega arith) c.loop-sheet.invariant }
