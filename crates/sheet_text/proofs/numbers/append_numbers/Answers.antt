use Rattle.sheet_plan.specs.OfSheets.{slots_at}
use Rattle.sheet_text.specs.PageNumbers.{slot_lines}
use Rattle.sheet_text.proofs.Appended.{slot_more}
use Rattle.sheet_text.proofs.numbers.append_numbers.Goals as goal

pub loop-slot-preserved : goal.loop-slot-preserved
loop-slot-preserved c =
    slot_more (slot_lines c.args.numbers.now) c.args.text.now _ _ c.loop-slot.slot (slots_at c.args.numbers.now.places c.args.sheet) _ c.placed.ensures
    c.loop-slot.invariant c.in_ok-append_slot_number.ensures
