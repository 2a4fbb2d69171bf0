use Rattle.run_steps.proofs.imposition.Imposition.impose.Goals as goal
use Rattle.run_steps.proofs.LookUps.{handed_on, looks_none, looks_until}

pub returns-in_default-clause-looked_up : goal.returns-in_default-clause-looked_up
returns-in_default-clause-looked_up c = (0, looks_none _ _)

pub returns-in_err-append_shelved_slots-clause-looked_up : goal.returns-in_err-append_shelved_slots-clause-looked_up
returns-in_err-append_shelved_slots-clause-looked_up c =
    let shown = c.in_err-append_shelved_slots.ensures.looked_up in
    handed_on c.from_residual.result c.in_err-append_shelved_slots.field-0.0 _ _ c.from_residual.ensures.1 (looks_until _ _ _ _ _ shown.1 shown.2)
