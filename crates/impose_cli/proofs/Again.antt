-- What was written for a request is a document again.
use Rattle.std.proofs.Common.{◌≤◌, ◌<◌, ◌≡◌, ◌∙◌, ℕ, ◌++◌, List, ap, drop, length, subst, sym, true, false, Bool, Option, Result, Ok, refl}
use Rattle.std.specs.Prelude.{Some, nat_lt}
use Rattle.std.proofs.Math.Seq.{drop-append_seam}
use Rattle.std.proofs.lemmas.Bool.{ltb-false}
use Rattle.rules.specs.Run.{most_input_bytes, most_pages, most_sheets, refuse_if}
use Rattle.rules.specs.Made.{MadeSheet}
use Rattle.rules.specs.MadePlans.{MadeTooManyPages, MadeTooManySheets, made_plan_of}
use Rattle.imposed_again.proofs.Again.{trailer_shuts}
use Rattle.imposed_again.proofs.MadeAgain.{made_is_document}
use Rattle.papers.specs.Reported.{reporting}
use Rattle.papers.proofs.Tame.{reporting_is_tame}
use Rattle.rules.specs.Dress.{Dress}
use Rattle.dressing.specs.Numbered.{drawn_on}
use Rattle.dressing.proofs.Tame.{drawn_is_tame}
use Rattle.row_runs.specs.Runs.{border_on, drawn_of, output_on}
use Rattle.impose_cli.specs.RowTasks.{FinishesRow}
use Rattle.impose_cli.specs.Laws.{IsMadeDocument, WroteDocument}
use Rattle.impose_words.specs.declared.request.ImposeRequest.{ImposeRequest}
use Rattle.impose_messages.specs.declared.finished.Finished.{Finished}

-- bytes behind the same ones are the same
behind : (old one other : List ℕ) → old ++ one ≡ old ++ other → one ≡ other
behind old one other e = sym (drop-append_seam old one) ∙ ap (drop (length old)) e ∙ drop-append_seam old other

passes : {A E : Type 0} (t : Bool) (fault : E) (next : Result A E) (x : A) → refuse_if t fault next ≡ Ok x → (t ≡ false) × (next ≡ Ok x)
passes true fault next x e = cc
passes false fault next x e = (refl, e)

-- a plan has at most so many sheets
few_sheets : (pages : ℕ) (all : List MadeSheet) → made_plan_of pages all ≡ Ok all → length all ≤ most_pages
few_sheets pages all e =
    let first = passes (nat_lt most_pages pages) MadeTooManyPages _ all e in
    ltb-false _ _ (passes (nat_lt most_sheets (length all)) MadeTooManySheets _ all first.1).0

abbrev dress_on : {r : ImposeRequest} {input : List ℕ} {old new : Option (List ℕ)} {done : Finished} → FinishesRow r input old new done → Dress
dress_on h = drawn_on (drawn_of h.job) (reporting h.imposes.made)

row_again : (r : ImposeRequest) (input old text : List ℕ) (done : Finished) (h : FinishesRow r input (Some old) (Some (old ++ text)) done)
    → length (output_on h.job h.imposes.made) ≤ most_input_bytes → 0 < length h.imposes.made
    → IsMadeDocument (border_on h.job) (dress_on h) h.imposes.made h.job.document.now (output_on h.job h.imposes.made)
row_again r input old text done h l some =
    let taken = h.task.text.items in
    let made = h.imposes.made in
    let us = h.job.document.now in
    let i = made_is_document (border_on h.job) (dress_on h) made taken us (drawn_is_tame (drawn_of h.job) (reporting made) (reporting_is_tame made)) h.is_job.document some (few_sheets _ made h.imposes.planned.planned) l in
    record {
      accepted = i.0;
      again = i.1;
      shut = i.2;
      with_trailer = λ some. i.2 (trailer_shuts taken us h.is_job.document some);
    }

pub wrote_document : WroteDocument
wrote_document r input old text done h l some =
    let e = sym (behind old text _ h.imposes.written) in
    subst (IsMadeDocument (border_on h.job) (dress_on h) h.imposes.made h.job.document.now) e
    (row_again r input old text done h (subst (λ t. length t ≤ most_input_bytes) (sym e) l) some)
