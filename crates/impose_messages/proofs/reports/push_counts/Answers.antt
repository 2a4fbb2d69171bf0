use Rattle.std.proofs.Common.{◌++◌, ◌∙◌, ℕ, ap}
use Rattle.std.specs.Prelude.{codes, decimal}
use Rattle.std.proofs.lemmas.Result.{on_ok_weaker}
use Rattle.impose_messages.proofs.Pieces.{seven}
use Rattle.impose_messages.specs.Said.{blank_count, blanks_text, page_count_text}
use Rattle.impose_messages.proofs.reports.push_counts.Goals as goal

pub returns : goal.returns
returns c =
    let report = c.args.report.now in
    on_ok_weaker c.push_number-2.result
    (λ last.
    seven c.args.said.now.items (codes "pages ") (page_count_text c.args.taken report.pages) (blanks_text (blank_count c.args.request.now report)) (codes ", sheets ")
    (decimal report.sheets) (codes ", bytes ") (decimal report.bytes) _ _ _ _ _ _ _
    c.in_ok-extend_from_slice.ensures.items c.in_ok-push_page_count.ensures
    (c.in_ok-push_blanks.ensures ∙ ap (λ (blanks : ℕ). c.push_page_count.new.said.items ++ blanks_text blanks) c.blanks_of.ensures)
    c.in_ok-extend_from_slice-2.ensures.items (c.in_ok-push_number.ensures ∙ ap (λ (n : ℕ). c.extend_from_slice-2.new.self.items ++ decimal n) c.from.ensures)
    c.in_ok-extend_from_slice-3.ensures.items (last ∙ ap (λ (n : ℕ). c.extend_from_slice-3.new.self.items ++ decimal n) c.from-2.ensures))
    c.push_number-2.ensures
