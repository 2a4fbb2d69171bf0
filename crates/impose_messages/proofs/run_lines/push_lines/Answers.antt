use Rattle.std.proofs.Common.{◌++◌, List, ℕ, Some}
use Rattle.std.proofs.lemmas.Result.{on_ok_weaker}
use Rattle.impose_messages.proofs.Pieces.{two}
use Rattle.impose_messages.specs.Said.{claim_lines, home_text, line_of, lying_lines, pages_after_text, paper_lines, report_text}
use Rattle.impose_messages.proofs.run_lines.push_lines.Goals as goal

pub returns : goal.returns
returns c =
    let old : List ℕ = c.args.said.now.items in
    let done = c.args.done.now in
    let found = done.findings in
    let a : List ℕ = line_of (Some (report_text done c.args.request.now)) in
    let b : List ℕ = a ++ paper_lines found in
    let d : List ℕ = b ++ lying_lines done.sheets in
    let e : List ℕ = d ++ line_of (pages_after_text found.after_trailer) in
    let f : List ℕ = e ++ claim_lines found.claims done.report.pages in
    on_ok_weaker c.push_home_line.result
    (λ last. two old f (line_of (home_text c.args.paper_size.now)) _ _
    (two old e (claim_lines found.claims done.report.pages) _ _
    (two old d (line_of (pages_after_text found.after_trailer)) _ _
    (two old b (lying_lines done.sheets) _ _
    (two old a (paper_lines found) _ _ c.in_ok-push_report_line.ensures c.in_ok-push_paper_lines.ensures)
    c.in_ok-push_lying_lines.ensures)
    c.in_ok-push_pages_after_line.ensures)
    c.in_ok-push_claim_lines.ensures)
    last)
    c.push_home_line.ensures
