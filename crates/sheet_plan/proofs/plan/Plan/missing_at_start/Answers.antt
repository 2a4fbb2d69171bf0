use Rattle.std.proofs.Common.{arith, ◌+◌, sym, ◌∙◌, subst}
use Rattle.sheet_plan.specs.Plans.{pages_on}
use Rattle.sheet_plan.proofs.Blanks.{IsMarked, marked_some, unmarked}
use Rattle.sheet_plan.proofs.plan.Plan.missing_at_start.Goals as goal
use Rattle.sheet_plan.proofs.plan.Plan.missing_at_start.Goals.{then-is_some, else-is_some}

pub loop-slot-preserved : goal.loop-slot-preserved
loop-slot-preserved c =
    let pages = pages_on c.args.self.now c.args.sheet in
    let slot = c.loop-slot.slot in
    elim c.if-is_some.branch [
      | then-is_some w ↦ subst (IsMarked pages _ (slot + 1)) (sym w.missing-is)
          (marked_some pages _ slot c.loop-slot.missing c.page_of.result c.loop-slot.invariant (omega arith) c.page_of.ensures.value (sym c.is_some.ensures ∙ w.if-is_some.true))
      | else-is_some w ↦ subst (IsMarked pages _ (slot + 1)) (sym w.missing-is)
          (unmarked pages _ slot c.loop-slot.missing c.page_of.result c.loop-slot.invariant c.page_of.ensures.value (sym c.is_some.ensures ∙ w.if-is_some.false))
    ]
