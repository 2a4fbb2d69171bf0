use Rattle.std.proofs.Common.{rules, ◌≡◌, None, Some, length, refl, subst}
use Rattle.rules.specs.Signatures.{entry_of}
use Rattle.row_sheets.specs.FirstFault.{first_fault}
use Rattle.row_sheets.specs.Shapes.{filling, first_refused, why_no_place}
use Rattle.row_sheets.specs.Standing.{EntryFits}
use Rattle.row_sheets.proofs.Filling.{one_more}
use Rattle.layouts.proofs.Fitting.{handed_on}
use Rattle.row_sheets.proofs.Refused.{first_entry, fits_none, no_fault}
use Rattle.row_sheets.proofs.checked.check_cells.Goals as goal

pub loop-entry-preserved : goal.loop-entry-preserved
loop-entry-preserved c = one_more (λ i. EntryFits (filling c.args.setting.now c.args.papers.now) (entry_of c.args.row.now i)) c.loop-entry.entry-index c.loop-entry.invariant (search rules)

pub returns-in_err-check_cell-clause-refused : goal.returns-in_err-check_cell-clause-refused
returns-in_err-check_cell-clause-refused c =
    let f = filling c.args.setting.now c.args.papers.now in
    let row = c.args.row.now in
    let e = c.in_err-check_cell.field-0.0 in
    let here : why_no_place f (entry_of row c.loop-entry.entry-index) ≡ Some e = search rules in
    handed_on c.from_residual.result e (λ error. first_refused f row ≡ Some error) c.from_residual.ensures.1
    (first_entry (λ j. why_no_place f) row c.loop-entry.entry-index e (λ j. refl) (λ j less. fits_none f (entry_of row j) (c.loop-entry.invariant j less)) here)

pub returns-clause-possible : goal.returns-clause-possible
returns-clause-possible c =
    let f = filling c.args.setting.now c.args.papers.now in
    let row = c.args.row.now in
    let all : c.loop-entry.entry-index ≡ length row = search rules in
    let none = no_fault (λ i. why_no_place f (entry_of row i)) c.loop-entry.entry-index (λ i less. fits_none f (entry_of row i) (c.loop-entry.invariant i less)) in
    subst (λ n. first_fault (λ i. why_no_place f (entry_of row i)) n ≡ None) all none
