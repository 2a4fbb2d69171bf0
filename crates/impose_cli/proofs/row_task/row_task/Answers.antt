use Rattle.std.proofs.Common.{◌≡◌, ◌∙◌, ap, inl, inr, length, None, refl, rules}
use Rattle.rules.specs.Choice.{imposed_row}
use Rattle.impose_words.specs.Choices.{choice_in}
use Rattle.layouts.proofs.Fitting.{handed_on}
use Rattle.impose_messages.specs.Faults.{without_memory}
use Rattle.impose_cli.specs.Tasks.{taken_text}
use Rattle.impose_cli.specs.RowTasks.{IsRowPaper, why_no_row}
use Rattle.impose_cli.proofs.Rows.{guarded_by, laid_as_asked, layout_refused, refused_after, refused_found, row_paper_of}
use Rattle.impose_cli.proofs.row_task.row_task.Goals as goal

pub returns-in_err-found-clause-refused : goal.returns-in_err-found-clause-refused
returns-in_err-found-clause-refused c =
    handed_on c.from_residual.result _ _ c.from_residual.ensures.1
    (refused_found c.args.request.now c.args.input.items c.in_err-found.field-0.0 (rw c.as_slice.ensures.value at c.in_err-found.ensures.refused))

pub returns-in_err-laying-clause-refused : goal.returns-in_err-laying-clause-refused
returns-in_err-laying-clause-refused c =
    let findings = c.in_ok-found.found.findings in
    let found : IsRowPaper c.args.request.now c.args.input.items (findings.page_paper, findings.origin) =
    row_paper_of c.args.request.now c.args.input.items findings (rw c.as_slice.ensures.value at c.in_ok-found.ensures.findings) in
    handed_on c.from_residual-in_err-laying.result _ _ c.from_residual-in_err-laying.ensures.1
    (layout_refused c.args.request.now c.args.input.items (findings.page_paper, findings.origin) _ _ _ found c.papers_for-papers.ensures.page c.papers_for-papers.ensures.sheet c.in_err-laying.ensures.refused)

pub returns-in_err-check_options-clause-refused : goal.returns-in_err-check_options-clause-refused
returns-in_err-check_options-clause-refused c =
    let findings = c.in_ok-found.found.findings in
    let found : IsRowPaper c.args.request.now c.args.input.items (findings.page_paper, findings.origin) =
    row_paper_of c.args.request.now c.args.input.items findings (rw c.as_slice.ensures.value at c.in_ok-found.ensures.findings) in
    let possible : why_no_row c.args.request.now findings.page_paper ≡ None = search rules in
    handed_on c.from_residual-in_err-check_options.result _ _ c.from_residual-in_err-check_options.ensures.1
    (refused_after c.args.request.now c.args.input.items _ _ found (inr (inr (possible, c.in_ok-laying.ensures.named, c.in_err-check_options.ensures.refused))))

pub returns-clause-is_task : goal.returns-clause-is_task
returns-clause-is_task c = record {
  turns = rw c.as_slice.ensures.value at c.in_ok-found.ensures.turns;
  papers = rw c.as_slice.ensures.value at c.in_ok-found.ensures.papers;
  findings = rw c.as_slice.ensures.value at c.in_ok-found.ensures.findings;
  text = c.in_ok-text.ensures.taken ∙ ap (λ p. taken_text c.args.request.now.is_guarded p c.args.input.items)
      (c.guarded_paper-sheet.ensures
      ∙ guarded_by c.args.request.now.layout (imposed_row (length c.in_ok-found.found.papers.items) (choice_in c.args.request.now.choice) None) _ c.in_ok-found.found.papers.items _ _
      c.in_ok-found.ensures.row c.papers_for-papers.ensures.sheet);
  laying = laid_as_asked c.args.request.now _ _ _ c.in_ok-laying.laying c.papers_for-papers.ensures.page c.papers_for-papers.ensures.sheet c.in_ok-laying.ensures.laying;
  possible = search rules;
  may_be_laid = c.in_ok-laying.ensures.may_be;
  options = c.in_ok-check_options.ensures.accepted;
}

pub returns-clause-parts : goal.returns-clause-parts
returns-clause-parts c = c.in_ok-text.ensures.parts c.in_ok-found.parts (rw c.as_slice.ensures.value at c.in_ok-found.ensures.parts)

pub returns-in_err-text-clause-refused : goal.returns-in_err-text-clause-refused
returns-in_err-text-clause-refused c =
    let findings = c.in_ok-found.found.findings in
    let found : IsRowPaper c.args.request.now c.args.input.items (findings.page_paper, findings.origin) =
    row_paper_of c.args.request.now c.args.input.items findings (rw c.as_slice.ensures.value at c.in_ok-found.ensures.findings) in
    handed_on c.from_residual-in_err-text.result without_memory _ c.from_residual-in_err-text.ensures.1
    (refused_after c.args.request.now c.args.input.items _ _ found (inl (inl refl)))
