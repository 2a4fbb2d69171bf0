use Rattle.std.proofs.Common.{ℕ, List, ap, sym, subst, ◌∙◌, ◌<◌, Option, Some, refl, arith}
use Rattle.std.specs.Prelude.{Ok}
use Rattle.rules.specs.Sheets.{Layout}
use Rattle.rules.specs.MadePlans.{page_of}
use Rattle.rules.specs.Parts.{pages}
use Rattle.sheet_plan.specs.OfSheets.{placed_of}
use Rattle.sheet_plan.specs.declared.made.PlacedSlot.{PlacedSlot}
use Rattle.sheet_text.specs.Jobs.{slots_of}
use Rattle.sheet_text.proofs.Slots.{slot_blank, slot_shelved}
use Rattle.run_steps.specs.LookUps.{LooksAt}
use Rattle.run_steps.proofs.imposition.Imposition.append_shelved.Goals as goal
use Rattle.run_steps.proofs.LookUps.{has_index, on_err}

-- what was found in a slot is a page, or nothing
abbrev in_plan : Option PlacedSlot → Option (Option ℕ)
in_plan found = Some (page_of (placed_of found))

pub find_shelved-requires-clause-index : goal.find_shelved-requires-clause-index
find_shelved-requires-clause-index c =
    has_index c.args.self.now.job.now.plan c.args.self.now.table.now.layout c.args.seat.now c.args.sheet c.args.slot _ c.args.self.now.same_plan c.requires.seat.1 c.share.ensures.seat c.requires.complete
    (c.placed.ensures.planned ∙ ap in_plan c.in-Some.is)

pub find_shelved-requires-clause-in_table : goal.find_shelved-requires-clause-in_table
find_shelved-requires-clause-in_table c =
    let within = c.in-Some.ensures.page in
    let same = c.placed.ensures.same_pages in
    subst (λ (l : Layout). c.in-Some.placed.page < l.pages) (sym c.args.self.now.same_plan) (omega (arith, within, same))

pub returns-in-Ok-clause-text : goal.returns-in-Ok-clause-text
returns-in-Ok-clause-text c = λ it at.
    let job = c.args.self.now.job.now in
    slot_shelved job.border (pages job.units) (slots_of job c.args.sheet) c.args.slot c.in-Some.placed.page _ _ it _ _ _ _
    (c.placed.ensures.value ∙ ap (λ o. Some (placed_of o)) c.in-Some.is) at c.in-Ok.ensures
    c.in_ok-shown.ensures.raw (c.in_ok-shown.ensures.prepared ∙ ap (λ (b : List ℕ). Ok b) (sym c.body.ensures.body))

pub returns-in_default-clause-text : goal.returns-in_default-clause-text
returns-in_default-clause-text c = λ it at.
    let job = c.args.self.now.job.now in
    slot_blank job.border (pages job.units) (slots_of job c.args.sheet) c.args.slot it c.args.text.now (c.placed.ensures.value ∙ ap (λ o. Some (placed_of o)) c.in_default.is) at

pub returns-in_default-clause-looked_up : goal.returns-in_default-clause-looked_up
returns-in_default-clause-looked_up c =
    subst (λ o. LooksAt o c.args.seat.now c.args.seat.now) (sym (c.placed.ensures.planned ∙ ap in_plan c.in_default.is)) refl

pub returns-in_err-shown-clause-has_page : goal.returns-in_err-shown-clause-has_page
returns-in_err-shown-clause-has_page c = on_err c.from_residual.result _ (c.in-Some.placed.page, c.placed.ensures.planned ∙ ap in_plan c.in-Some.is)

pub returns-in-Err-clause-has_page : goal.returns-in-Err-clause-has_page
returns-in-Err-clause-has_page c = (c.in-Some.placed.page, c.placed.ensures.planned ∙ ap in_plan c.in-Some.is)

pub returns-in_err-shown-clause-looked_up : goal.returns-in_err-shown-clause-looked_up
returns-in_err-shown-clause-looked_up c =
    subst (λ o. LooksAt o c.args.seat.now c.find_shelved.new.seat) (sym (c.placed.ensures.planned ∙ ap in_plan c.in-Some.is)) c.find_shelved.ensures.looked_up

pub returns-in-Ok-clause-looked_up : goal.returns-in-Ok-clause-looked_up
returns-in-Ok-clause-looked_up c =
    subst (λ o. LooksAt o c.args.seat.now c.find_shelved.new.seat) (sym (c.placed.ensures.planned ∙ ap in_plan c.in-Some.is)) c.find_shelved.ensures.looked_up

pub returns-in-Err-clause-looked_up : goal.returns-in-Err-clause-looked_up
returns-in-Err-clause-looked_up c =
    subst (λ o. LooksAt o c.args.seat.now c.find_shelved.new.seat) (sym (c.placed.ensures.planned ∙ ap in_plan c.in-Some.is)) c.find_shelved.ensures.looked_up
