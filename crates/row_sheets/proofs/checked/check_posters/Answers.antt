use Rattle.std.proofs.Common.{rules, ◌≡◌, Some}
use Rattle.rules.specs.Signatures.{entry_of}
use Rattle.row_sheets.specs.Posters.{EntryMayBePoster, first_no_poster, why_no_tiles}
use Rattle.row_sheets.proofs.Filling.{one_more}
use Rattle.layouts.proofs.Fitting.{handed_on}
use Rattle.row_sheets.proofs.Refused.{first_poster}
use Rattle.row_sheets.proofs.checked.check_posters.Goals as goal

pub loop-entry-preserved : goal.loop-entry-preserved
loop-entry-preserved c = one_more (λ i. EntryMayBePoster c.args.poster.now c.args.papers.now (entry_of c.args.row.now i)) c.loop-entry.entry-index c.loop-entry.invariant (search rules)

pub returns-in_err-check_entry-clause-refused : goal.returns-in_err-check_entry-clause-refused
returns-in_err-check_entry-clause-refused c =
    let p = c.args.poster.now in
    let papers = c.args.papers.now in
    let row = c.args.row.now in
    let e = c.in_err-check_entry.field-0.0 in
    let here : why_no_tiles p papers (entry_of row c.loop-entry.entry-index) ≡ Some e = search rules in
    handed_on c.from_residual.result e (λ error. first_no_poster p papers row ≡ Some error) c.from_residual.ensures.1
    (first_poster p papers row c.loop-entry.entry-index e c.loop-entry.invariant here)
