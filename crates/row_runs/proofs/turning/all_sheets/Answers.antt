use Rattle.std.proofs.Common.{rules, ◌≡◌, ◌∙◌, ◌<◌, ap, length, map, subst, sym, true}
use Rattle.std.specs.List.{list_all}
use Rattle.std.specs.Prelude.{List}
use Rattle.rules.specs.Made.{MadeSlot}
use Rattle.sheet_plan.specs.OfSheets.{slot_of, slots_at}
use Rattle.row_runs.specs.SwappedMargins.{swapped_room_on, moved_slot}
use Rattle.row_runs.specs.Reaching.{is_slot_reached}
use Rattle.row_runs.specs.Turning.{turn_on, turned_slot}
use Rattle.row_runs.proofs.Backs.{fused, sheet_more}
use Rattle.row_runs.proofs.Reach.{reached_at}
use Rattle.row_runs.proofs.Turns.{sheet_at}
use Rattle.row_runs.proofs.turning.all_sheets.Goals as goal

pub loop-sheet-preserved : goal.loop-sheet-preserved
loop-sheet-preserved c =
    let all = c.args.sheets.now in
    let s = c.loop-sheet.sheet in
    let t = turn_on c.args.turns.now in
    let m = swapped_room_on c.args.swap.now s in
    let slots = ap (map slot_of) c.as_slice.ensures.value ∙ c.in_ok-turn_slots.ensures
    ∙ ap (λ k. map (λ slot. turned_slot t (moved_slot k slot)) (slots_at all s)) c.swapped_room_on-side.ensures
    ∙ fused (turned_slot t) (moved_slot m) (slots_at all s) in
    sheet_more t c.args.swap.now c.loop-sheet.turned _ s all _ _ (sheet_at all s c.paper.result.now c.paper.ensures)
    c.loop-sheet.invariant c.in_ok-push.ensures.pushed
    (ap (λ (xs : List MadeSlot). record { paper = c.paper.result.now; slots = xs }) slots)

pub turn_slots-requires-clause-reached : goal.turn_slots-requires-clause-reached
turn_slots-requires-clause-reached c =
    let all = c.args.sheets.now in
    let s = c.loop-sheet.sheet in
    let t = turn_on c.args.turns.now in
    let within : s < length all = search rules in
    subst (λ k. list_all (is_slot_reached t k) (slots_at all s) ≡ true) (sym c.swapped_room_on-side.ensures) (reached_at t c.args.swap.now s all within c.requires.reached)
