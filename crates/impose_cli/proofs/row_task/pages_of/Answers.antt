use Rattle.std.proofs.Common.{inl, inr, refl}
use Rattle.impose_messages.specs.Faults.{without_memory}
use Rattle.layouts.proofs.Fitting.{handed_on}
use Rattle.impose_cli.proofs.Rows.{accepted_has_pages, are_papers, are_parts, finds_for_row, has_turns}
use Rattle.impose_cli.proofs.row_task.pages_of.Goals as goal

pub returns-in-Err-clause-refused : goal.returns-in-Err-clause-refused
returns-in-Err-clause-refused c = inl (c.in-Err.error, c.refused_document.ensures, c.in-Err.ensures.answer, c.in-Err.ensures.first_checks)

pub returns-clause-papers : goal.returns-clause-papers
returns-clause-papers c = are_papers c.args.request.now c.args.input.now _ _ c.in-Ok.ensures.answer c.in_ok-found.ensures.papers

pub returns-clause-turns : goal.returns-clause-turns
returns-clause-turns c = has_turns c.args.request.now c.args.input.now _ _ c.in-Ok.ensures.answer c.in_ok-found.ensures.turns

pub returns-clause-findings : goal.returns-clause-findings
returns-clause-findings c =
    let found = c.in_ok-found.ensures in
    finds_for_row c.args.request.now c.args.input.now _ _ c.in-Ok.ensures.answer found.paper found.cut found.loose found.reach found.after_trailer found.taken found.claims

pub returns-clause-parts : goal.returns-clause-parts
returns-clause-parts c = are_parts c.args.input.now _ _ c.in-Ok.ensures.answer c.into_parts.ensures.parts

pub returns-in_err-found-clause-refused : goal.returns-in_err-found-clause-refused
returns-in_err-found-clause-refused c =
    let some = accepted_has_pages c.args.input.now _ c.in-Ok.ensures.answer in
    handed_on c.from_residual.result without_memory _ c.from_residual.ensures.1 (inr (some.0, some.1, refl))
