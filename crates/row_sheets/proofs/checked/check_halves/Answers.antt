use Rattle.std.proofs.Common.{rules, ◌≡◌, ◌∙◌, ap₂, length, None, Some, refl, subst, sym}
use Rattle.rules.specs.Signatures.{entry_of}
use Rattle.row_sheets.specs.Creep.{first_over_fold, why_no_half}
use Rattle.row_sheets.specs.FirstFault.{first_fault}
use Rattle.row_sheets.specs.Shapes.{filling}
use Rattle.row_sheets.proofs.Filling.{one_more}
use Rattle.layouts.proofs.Fitting.{handed_on}
use Rattle.row_sheets.proofs.Refused.{first_entry, in_its_half, no_fault}
use Rattle.row_sheets.proofs.checked.check_halves.Goals as goal

pub loop-place-preserved : goal.loop-place-preserved
loop-place-preserved c =
    let f = filling c.args.setting.now c.args.papers.now in
    let here = ap₂ (why_no_half f) (sym c.creep_on-by.ensures) (sym c.entry_at-entry.ensures) ∙ c.in_ok-check_half.ensures.fits in
    one_more (λ j. in_its_half f c.args.creep.innermost c.args.creep.leaves j (entry_of c.args.row.now j) ≡ None) c.loop-place.place c.loop-place.invariant here

pub returns-in_err-check_half-clause-refused : goal.returns-in_err-check_half-clause-refused
returns-in_err-check_half-clause-refused c =
    let f = filling c.args.setting.now c.args.papers.now in
    let creep = c.args.creep.innermost in
    let leaves = c.args.creep.leaves in
    let row = c.args.row.now in
    let e = c.in_err-check_half.field-0.0 in
    let here = ap₂ (why_no_half f) (sym c.creep_on-by.ensures) (sym c.entry_at-entry.ensures) ∙ c.in_err-check_half.ensures.refused in
    handed_on c.from_residual.result e (λ error. first_over_fold f creep leaves row ≡ Some error) c.from_residual.ensures.1
    (first_entry (in_its_half f creep leaves) row c.loop-place.place e (λ j. refl) c.loop-place.invariant here)

pub returns-clause-fits : goal.returns-clause-fits
returns-clause-fits c =
    let f = filling c.args.setting.now c.args.papers.now in
    let all : c.loop-place.place ≡ length c.args.row.now = search rules in
    let none = no_fault (λ j. in_its_half f c.args.creep.innermost c.args.creep.leaves j (entry_of c.args.row.now j)) c.loop-place.place c.loop-place.invariant in
    subst (λ n. first_fault (λ j. in_its_half f c.args.creep.innermost c.args.creep.leaves j (entry_of c.args.row.now j)) n ≡ None) all none
