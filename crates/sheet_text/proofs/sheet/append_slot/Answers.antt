use Rattle.std.proofs.Common.{ap, List, ℕ, [], refl, sym, ◌∙◌}
use Rattle.std.specs.Prelude.{slice_index_or, Ok}
use Rattle.rules.specs.Parts.{pages}
use Rattle.rules.specs.Filters.{prepared}
use Rattle.sheet_text.specs.Jobs.{slots_of}
use Rattle.sheet_text.proofs.sheet.append_slot.Goals as goal
use Rattle.sheet_text.proofs.Slots.{placed_is, slot_shelved}

pub returns : goal.returns
returns c = λ it at.
    let job = c.args.job.now in
    slot_shelved job.border (pages job.units) (slots_of job c.args.sheet) c.args.slot c.in-Some.placed.page _ _ it _ _ _ _ c.in-Some.ensures.value at
    (placed_is _ _ _ _ _ _ c.in_ok-append.ensures c.in_ok-append-2.ensures.appended c.in_ok-append_closing.ensures)
    refl
    (ap (λ us. prepared (slice_index_or (pages us) c.in-Some.placed.page [])) (sym c.document.ensures) ∙ c.in_ok-body.ensures.body ∙ ap (λ (b : List ℕ). Ok b) (sym c.as_slice.ensures))
