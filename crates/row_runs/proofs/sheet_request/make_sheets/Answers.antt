use Rattle.std.specs.Prelude.{IfOk, OnOk, Result}
use Rattle.std.proofs.Common.{rules, ◌≡◌, Ok, Err, subst}
use Rattle.std.proofs.lemmas.Result.{IfErr-weaker, IfOk-weaker}
use Rattle.row_runs.specs.Sheets.{leaves_in, row_chosen, row_printed, sewn}
use Rattle.row_runs.specs.Standing.{StandAsLaid}
use Rattle.row_runs.proofs.Counted.{few_made}
use Rattle.row_runs.proofs.Fit.{asked_so}
use Rattle.row_runs.proofs.NotLaid.{asked_told, even_told}
use Rattle.row_runs.proofs.OneScale.{evened_stand}
use Rattle.row_runs.proofs.sheet_request.make_sheets.Goals as goal

-- what two clauses give
ok_with : {X E Q : Type 0} {P R : X → Type 0} (r : Result X E) → ((x : X) → P x → Q → R x) → IfOk r P → OnOk r Q → IfOk r R
ok_with (Ok x) f p q = f x p q
ok_with (Err e) f p q = tt

pub returns-in-Err-at_common_scale-clause-refused : goal.returns-in-Err-at_common_scale-clause-refused
returns-in-Err-at_common_scale-clause-refused c =
    let a = c.args.asked.now in
    let row = c.in-Ok.row.items in
    let printed = c.as_slice-entries.result.now in
    let is_row : row_chosen c.args.pages a ≡ Ok row = search rules in
    let is_printed : printed ≡ row_printed a row = search rules in
    even_told c.args.pages c.args.papers.now a row printed c.in-Err-at_common_scale.error c.arrangement_error.result is_row is_printed c.in-Err-at_common_scale.ensures.refused c.arrangement_error.ensures

pub returns-clause-refused : goal.returns-clause-refused
returns-clause-refused c =
    let a = c.args.asked.now in
    let row = c.in-Ok.row.items in
    let printed = c.as_slice-entries.result.now in
    let is_row : row_chosen c.args.pages a ≡ Ok row = search rules in
    let is_printed : printed ≡ row_printed a row = search rules in
    let many : c.leaves_in-leaves.result ≡ leaves_in (sewn a) row = search rules in
    IfErr-weaker c.lay_row.result _ _
    (λ error h. asked_told c.args.pages c.args.papers.now a row printed c.leaves_in-leaves.result c.in-Ok-at_common_scale.laying error c.requires.pages is_row is_printed many
    c.in-Ok-at_common_scale.ensures.made c.in-Ok-at_common_scale.ensures.accepted h) c.lay_row.ensures.refused

pub returns-clause-stands : goal.returns-clause-stands
returns-clause-stands c =
    let a = c.args.asked.now in
    IfOk-weaker c.lay_row.result _ _
    (λ sheets h. evened_stand a.same_scale a.laying c.args.papers.now c.as_slice-entries.result.now sheets (subst (λ l. StandAsLaid l sheets) c.in-Ok-at_common_scale.ensures.made h)) c.lay_row.ensures.stands

pub returns-clause-made : goal.returns-clause-made
returns-clause-made c =
    let a = c.args.asked.now in
    let row = c.in-Ok.row.items in
    let printed = c.as_slice-entries.result.now in
    let is_row : row_chosen c.args.pages a ≡ Ok row = search rules in
    let is_printed : printed ≡ row_printed a row = search rules in
    let many : c.leaves_in-leaves.result ≡ leaves_in (sewn a) row = search rules in
    ok_with c.lay_row.result
    (λ sheets made fits. asked_so c.args.pages c.args.papers.now a row printed c.leaves_in-leaves.result c.in-Ok-at_common_scale.laying sheets is_row is_printed many
    c.in-Ok-at_common_scale.ensures.made c.in-Ok-at_common_scale.ensures.accepted (made, fits)) c.lay_row.ensures.made c.lay_row.ensures.fits

pub returns-clause-few : goal.returns-clause-few
returns-clause-few c =
    let a = c.args.asked.now in
    ok_with c.lay_row.result
    (λ sheets made few. few_made a.same_scale a.laying c.in-Ok-at_common_scale.laying c.leaves_in-leaves.result c.args.papers.now c.as_slice-entries.result.now sheets
    c.in-Ok-at_common_scale.ensures.made made few) c.lay_row.ensures.made c.lay_row.ensures.few
