use Rattle.std.proofs.Common.{arith, sym, ap, ◌∙◌}
use Rattle.std.specs.Prelude.{not, length}
use Rattle.rules.specs.MadePlans.{is_slot_count}
use Rattle.sheet_plan.proofs.Accepted.{uneven, no_sheet, slots_are, found_at, passed_by, looked_none, looked_all}
use Rattle.sheet_plan.proofs.made_expansion.first_uneven.Goals as goal

pub loop-sheet-init : goal.loop-sheet-init
loop-sheet-init c = looked_none uneven c.args.made.now

pub returns-then-is_uneven : goal.returns-then-is_uneven
returns-then-is_uneven c =
    sym (found_at uneven c.args.made.now c.loop-sheet.sheet no_sheet c.is_uneven.result (omega arith) c.loop-sheet.invariant
    (c.is_uneven.ensures ∙ ap (λ xs. not (is_slot_count (length xs))) (slots_are c.args.made.now c.loop-sheet.sheet (omega arith))) c.if-is_uneven.true)

pub loop-sheet-preserved : goal.loop-sheet-preserved
loop-sheet-preserved c =
    passed_by uneven c.args.made.now c.loop-sheet.sheet no_sheet c.is_uneven.result (omega arith) c.loop-sheet.invariant
    (c.is_uneven.ensures ∙ ap (λ xs. not (is_slot_count (length xs))) (slots_are c.args.made.now c.loop-sheet.sheet (omega arith))) c.if-is_uneven.false

pub returns : goal.returns
returns c = sym (looked_all uneven c.args.made.now c.loop-sheet.sheet (omega arith) c.loop-sheet.invariant)
