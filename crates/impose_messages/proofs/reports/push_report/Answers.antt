use Rattle.std.proofs.Common.{◌++◌, ◌∙◌, List, ℕ, ap}
use Rattle.std.specs.Prelude.{codes}
use Rattle.std.proofs.lemmas.Result.{on_ok_weaker}
use Rattle.rules.specs.Papers.{Paper}
use Rattle.impose_messages.proofs.Pieces.{seven, two}
use Rattle.impose_words.specs.SheetPapers.{sheet_paper_for}
use Rattle.impose_messages.specs.Said.{counts_text, leaves_text, origin_text, scales_line, sheets_text, paper_size_text}
use Rattle.impose_messages.proofs.reports.push_report.Goals as goal

pub returns : goal.returns
returns c =
    let done = c.args.done.now in
    on_ok_weaker c.push_scales.result
    (λ last. two c.args.said.now.items (leaves_text done.sheets.sides done.report.sheets) _ _ _ c.in_ok-push_leaves.ensures
    (seven c.push_leaves.new.said.items (counts_text done.findings.taken done.report c.args.request.now) (codes "; pages of ") (paper_size_text done.findings.page_paper) (codes " pt, ")
    (origin_text done.findings.origin) (sheets_text (sheet_paper_for c.args.request.now.layout c.args.request.now.sheet_paper done.findings.page_paper) done.findings.page_paper)
    (scales_line c.args.request.now.layout done.sheets.scales) _ _ _ _ _ _ _
    c.in_ok-push_counts.ensures c.in_ok-extend_from_slice.ensures.items c.in_ok-push_size.ensures c.in_ok-extend_from_slice-2.ensures.items
    (c.in_ok-extend_from_slice-3.ensures.items ∙ ap (λ (x : List ℕ). c.extend_from_slice-2.new.self.items ++ x) c.origin_text.ensures)
    (c.in_ok-push_sheets.ensures ∙ ap (λ (sheet : Paper). c.extend_from_slice-3.new.self.items ++ sheets_text sheet done.findings.page_paper) c.sheet_paper_for-sheet_paper.ensures) last))
    c.push_scales.ensures
