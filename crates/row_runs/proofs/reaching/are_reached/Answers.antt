use Rattle.std.proofs.Common.{rules, ◌≡◌, ◌∙◌, ◌<◌, false, length, subst, sym, true, true≢false}
use Rattle.std.specs.List.{list_all}
use Rattle.row_runs.specs.Turning.{turn_on}
use Rattle.sheet_plan.specs.OfSheets.{slots_at}
use Rattle.row_runs.specs.Reaching.{is_changed, is_slot_reached}
use Rattle.row_runs.proofs.Reach.{not_reached, sheet_reached, unchanged_on}
use Rattle.row_runs.proofs.reaching.are_reached.Goals as goal

pub returns-then-not-is_sheet_reached-clause-reached : goal.returns-then-not-is_sheet_reached-clause-reached
returns-then-not-is_sheet_reached-clause-reached c =
    let all = c.args.sheets.now in
    let s = c.loop-sheet.sheet in
    let t = turn_on c.args.turns.now in
    let within : s < length all = search rules in
    sym (not_reached t c.args.swap.now s all within
    (subst (λ k. list_all (is_slot_reached t k) (slots_at all s) ≡ false) c.swapped_room_on.ensures
    (sym c.is_sheet_reached.ensures.reached ∙ c.if-not-is_sheet_reached.true)))

pub returns-then-not-is_sheet_reached-clause-unchanged : goal.returns-then-not-is_sheet_reached-clause-unchanged
returns-then-not-is_sheet_reached-clause-unchanged c same =
    let t = c.args.turns.now in
    let on_sheet : is_changed t c.swapped_room_on.result ≡ false =
    subst (λ k. is_changed t k ≡ false) (sym c.swapped_room_on.ensures) (unchanged_on t c.args.swap.now c.loop-sheet.sheet same) in
    absurd (true≢false (sym (c.is_sheet_reached.ensures.unchanged on_sheet) ∙ c.if-not-is_sheet_reached.true))

pub loop-sheet-preserved : goal.loop-sheet-preserved
loop-sheet-preserved c =
    let all = c.args.sheets.now in
    let s = c.loop-sheet.sheet in
    let t = turn_on c.args.turns.now in
    let within : s < length all = search rules in
    sheet_reached t c.args.swap.now s all within c.loop-sheet.invariant
    (subst (λ k. list_all (is_slot_reached t k) (slots_at all s) ≡ true) c.swapped_room_on.ensures
    (sym c.is_sheet_reached.ensures.reached ∙ c.if-not-is_sheet_reached.false))
