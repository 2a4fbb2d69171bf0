use Rattle.std.proofs.Common.{◌∙◌, ap, map}
use Rattle.std.proofs.lemmas.List.{map_push}
use Rattle.sheet_plan.specs.OfSheets.{slot_of, slots_at}
use Rattle.row_runs.specs.SwappedMargins.{moved_slot}
use Rattle.row_runs.specs.Turning.{turn_on, turned_slot}
use Rattle.row_runs.specs.Reaching.{is_slot_reached}
use Rattle.row_runs.proofs.Reach.{one_of_all}
use Rattle.row_runs.proofs.Turns.{one_more}
use Rattle.row_runs.proofs.turning.turn_slots.Goals as goal

pub loop-slot-preserved : goal.loop-slot-preserved
loop-slot-preserved c =
    one_more (λ slot. turned_slot (turn_on c.args.turns.now) (moved_slot c.args.swap.now slot)) (map slot_of c.loop-slot.slots.items) _ c.loop-slot.slot (slots_at c.args.sheets.now c.args.sheet) _ _
    c.placed.ensures c.loop-slot.invariant (ap (map slot_of) c.in_ok-push.ensures.items ∙ map_push slot_of c.loop-slot.slots.items _) c.turned_slot.ensures

pub turned_slot-requires : goal.turned_slot-requires
turned_slot-requires c =
    one_of_all (is_slot_reached (turn_on c.args.turns.now) c.args.swap.now) c.loop-slot.slot (slots_at c.args.sheets.now c.args.sheet) _ c.placed.ensures c.requires.reached
