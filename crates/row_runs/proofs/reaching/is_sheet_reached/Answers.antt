use Rattle.std.proofs.Common.{arith, ◌≡◌, ◌∙◌, suc, ◌+◌, subst, sym, take, true, true≢false}
use Rattle.std.specs.List.{list_all}
use Rattle.row_runs.specs.Turning.{turn_on}
use Rattle.sheet_plan.specs.OfSheets.{slots_at}
use Rattle.row_runs.specs.Reaching.{is_slot_reached}
use Rattle.row_runs.proofs.Reach.{all_more, not_all}
use Rattle.row_runs.proofs.reaching.is_sheet_reached.Goals as goal

pub returns-then-not-is_slot_reached-clause-reached : goal.returns-then-not-is_slot_reached-clause-reached
returns-then-not-is_slot_reached-clause-reached c =
    sym (not_all (is_slot_reached (turn_on c.args.turns.now) c.args.swap.now) c.loop-slot.slot (slots_at c.args.sheets.now c.args.sheet) _ c.placed.ensures
    (sym c.is_slot_reached.ensures.reached ∙ c.if-not-is_slot_reached.true))

pub returns-then-not-is_slot_reached-clause-unchanged : goal.returns-then-not-is_slot_reached-clause-unchanged
returns-then-not-is_slot_reached-clause-unchanged c same =
    absurd (true≢false (sym (c.is_slot_reached.ensures.unchanged same) ∙ c.if-not-is_slot_reached.true))

pub loop-slot-preserved : goal.loop-slot-preserved
loop-slot-preserved c =
    let p = is_slot_reached (turn_on c.args.turns.now) c.args.swap.now in
    let slots = slots_at c.args.sheets.now c.args.sheet in
    let next : suc c.loop-slot.slot ≡ c.loop-slot.slot + 1 = omega arith in
    subst (λ n. list_all p (take n slots) ≡ true) next
    (all_more p c.loop-slot.slot slots _ c.placed.ensures c.loop-slot.invariant
    (sym c.is_slot_reached.ensures.reached ∙ c.if-not-is_slot_reached.false))
