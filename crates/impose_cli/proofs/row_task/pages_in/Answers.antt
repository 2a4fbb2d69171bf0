use Rattle.std.proofs.Common.{◌≡◌, ◌∙◌, ap, map}
use Rattle.rules.specs.Parts.{bytes_of}
use Rattle.std.specs.Prelude.{None}
use Rattle.rules.specs.Choice.{imposed_row}
use Rattle.impose_words.specs.Choices.{choice_in}
use Rattle.impose_cli.specs.Taken.{row_or_none}
use Rattle.impose_cli.specs.RowTasks.{cells_paper, row_paper}
use Rattle.impose_cli.proofs.Rows.{are_counted, as_many, counts_taken, is_counted, is_found}
use Rattle.impose_cli.proofs.row_task.pages_in.Goals as goal

pub returns-clause-paper : goal.returns-clause-paper
returns-clause-paper c =
    let row = c.in_ok-row.ensures ∙ ap (λ n. row_or_none (imposed_row n (choice_in c.args.request.now.choice) None)) c.pages.ensures.count in
    let taken = rw c.as_slice.ensures.value at (rw c.as_slice-2.ensures.value at c.in_ok-taken.ensures) in
    is_found c.args.request.now c.args.document.now c.in_ok-row.row.items c.in_ok-own.own.items c.in_ok-taken.taken.items c.paper_of_row-found.result c.in_ok-page_paper.page_paper c.counted_origin.result c.in_ok-own.ensures row taken
    (rw c.text.ensures.text at (rw c.as_slice-3.ensures.value at c.paper_of_row-found.ensures)) (rw c.as_slice-4.ensures.value at c.in_ok-page_paper.ensures) c.counted_origin.ensures

pub returns-clause-papers : goal.returns-clause-papers
returns-clause-papers c =
    let row = c.in_ok-row.ensures ∙ ap (λ n. row_or_none (imposed_row n (choice_in c.args.request.now.choice) None)) c.pages.ensures.count in
    let taken = rw c.as_slice.ensures.value at (rw c.as_slice-2.ensures.value at c.in_ok-taken.ensures) in
    let one : c.in_ok-page_paper.page_paper ≡ (row_paper c.args.request.now (bytes_of c.args.document.now) c.args.document.now).0 =
    is_counted c.args.request.now c.args.document.now c.in_ok-row.row.items c.in_ok-own.own.items c.in_ok-taken.taken.items c.paper_of_row-found.result c.in_ok-page_paper.page_paper c.in_ok-own.ensures row taken
    (rw c.text.ensures.text at (rw c.as_slice-3.ensures.value at c.paper_of_row-found.ensures)) (rw c.as_slice-4.ensures.value at c.in_ok-page_paper.ensures) in
    c.in_ok-turns.ensures.papers ∙ ap (map (cells_paper c.args.request.now))
    (are_counted c.args.request.now c.args.document.now c.in_ok-row.row.items c.in_ok-own.own.items c.in_ok-taken.taken.items c.in_ok-counted.counted.items
    c.in_ok-page_paper.page_paper c.in_ok-own.ensures row taken one (rw c.as_slice-5.ensures.value at (rw c.as_slice-6.ensures.value at c.in_ok-counted.ensures)))

pub returns-clause-row : goal.returns-clause-row
returns-clause-row c =
    c.in_ok-row.ensures ∙ ap (λ n. row_or_none (imposed_row n (choice_in c.args.request.now.choice) None))
    (as_many c.args.request.now c.args.document.now c.in_ok-page_paper.page_paper _ c.in_ok-own.own.items c.in_ok-counted.counted.items c.in_ok-turns.papers.items _
    c.pages.ensures.count c.in_ok-own.ensures (rw c.as_slice-6.ensures.value at c.in_ok-counted.ensures) c.in_ok-turns.ensures.papers)

pub returns-clause-taken : goal.returns-clause-taken
returns-clause-taken c =
    counts_taken c.args.request.now c.args.document.now c.in_ok-row.row.items _ c.in_ok-count.count c.pages-2.ensures.count
    (c.in_ok-row.ensures ∙ ap (λ n. row_or_none (imposed_row n (choice_in c.args.request.now.choice) None)) c.pages.ensures.count)
    (rw c.as_slice-10.ensures.value at c.in_ok-count.ensures)
