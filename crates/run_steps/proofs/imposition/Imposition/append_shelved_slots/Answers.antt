use Rattle.std.proofs.Common.{arith, ap, ◌+◌, ◌≡◌, ◌∙◌, length, take, sym, append-nil}
use Rattle.rules.specs.Sheets.{Plan}
use Rattle.sheet_plan.specs.Plans.{pages_on}
use Rattle.gather_table.specs.Table.{slots}
use Rattle.run_steps.specs.LookUps.{needed}
use Rattle.run_steps.proofs.imposition.Imposition.append_shelved_slots.Goals as goal
use Rattle.run_steps.proofs.LookUps.{handed_on, still_seat, still_complete, looks_none, looks_on, looks_some, looks_done, same_job}
use Rattle.sheet_text.proofs.Slots.{slots_turn}

pub append_shelved-requires-clause-seat : goal.append_shelved-requires-clause-seat
append_shelved-requires-clause-seat c = still_seat _ _ _ _ c.requires.seat c.loop-slot.invariant.looked_up.made

pub append_shelved-requires-clause-complete : goal.append_shelved-requires-clause-complete
append_shelved-requires-clause-complete c = still_complete _ _ _ _ _ c.requires.complete c.loop-slot.invariant.looked_up.made

pub loop-slot-init : goal.loop-slot-init
loop-slot-init c = record { text = sym (append-nil _); looked_up = looks_none _ _ }

pub loop-slot-preserved : goal.loop-slot-preserved
loop-slot-preserved c = record {
  text = slots_turn c.args.self.now.job.now c.args.sheet c.loop-slot.slot _ _ _ _ c.plan-plan.ensures.sheets (c.slots-slot-end.ensures.value ∙ ap (λ (plan : Plan). length (pages_on plan c.args.sheet)) c.plan-plan.ensures.value) c.loop-slot-test.true c.loop-slot.invariant.text c.in_ok-append_shelved.ensures.text;
  looked_up = looks_on c.args.self.now.job.now c.args.self.now.table.now.layout _ _ _ c.args.sheet c.loop-slot.slot c.args.self.now.same_plan c.loop-slot.invariant.looked_up c.append_shelved.ensures.looked_up;
}

pub returns-in_err-append_shelved-clause-looked_up : goal.returns-in_err-append_shelved-clause-looked_up
returns-in_err-append_shelved-clause-looked_up c =
    handed_on c.from_residual.result c.in_err-append_shelved.field-0.0 _ _ c.from_residual.ensures.1 (
      length (needed (take (c.loop-slot.slot + 1) (slots c.args.self.now.table.now.layout c.args.sheet))),
      looks_some c.args.self.now.job.now c.args.self.now.table.now.layout c.args.sheet c.loop-slot.slot _ c.args.self.now.same_plan c.in_err-append_shelved.ensures.has_page.1,
      looks_on c.args.self.now.job.now c.args.self.now.table.now.layout _ _ _ c.args.sheet c.loop-slot.slot c.args.self.now.same_plan c.loop-slot.invariant.looked_up c.append_shelved.ensures.looked_up,
    )

pub returns-clause-looked_up : goal.returns-clause-looked_up
returns-clause-looked_up c =
    let last : c.loop-slot.slot ≡ c.slots-slot-end.result = omega arith in
    looks_done _ c.args.self.now.job.now c.args.self.now.table.now.layout _ _ c.args.sheet c.loop-slot.slot c.slots-slot-end.result (same_job c.args.self.now.job.now c.plan-plan.result.now c.plan-plan.ensures.value) c.args.self.now.same_plan c.slots-slot-end.ensures.value last c.loop-slot.invariant.looked_up
