use Rattle.sheet_plan.proofs.Stored.{grown_none, grown_then, added_none, turn}
use Rattle.sheet_plan.proofs.made.keep_slots.Goals as goal

pub loop-slot-init : goal.loop-slot-init
loop-slot-init c = (grown_none c.args.placings.now.items c.args.slots.now.items, c.requires, added_none c.args.placings.now.items c.args.slots.now.items)

pub keep_slot-requires : goal.keep_slot-requires
keep_slot-requires c = c.loop-slot.invariant.1

pub loop-slot-preserved : goal.loop-slot-preserved
loop-slot-preserved c =
    let t = turn _ _ _ _ _ _ c.args.made.now c.loop-slot.slot-index c.slot-item.result c.loop-slot.invariant.0 c.loop-slot.invariant.1 c.loop-slot.invariant.2
    c.in_ok-keep_slot.ensures.grown c.in_ok-keep_slot.ensures.added c.slot-item.is c.loop-slot-test.true in
    (t.grown, t.named, t.added)

pub returns-in_err-keep_slot-clause-grown : goal.returns-in_err-keep_slot-clause-grown
returns-in_err-keep_slot-clause-grown c = grown_then _ _ _ _ _ _ c.loop-slot.invariant.0 c.in_err-keep_slot.ensures.grown
