use Rattle.std.proofs.Common.{◌++◌, List, ℕ}
use Rattle.std.proofs.lemmas.Result.{on_ok_weaker}
use Rattle.impose_messages.proofs.Pieces.{two}
use Rattle.impose_messages.specs.Said.{cut_text, line_of, loose_text, reach_text, unknown_text}
use Rattle.impose_messages.proofs.run_lines.push_paper_lines.Goals as goal

pub returns : goal.returns
returns c =
    let old : List ℕ = c.args.said.now.items in
    let found = c.args.found.now in
    let a : List ℕ = line_of (unknown_text found.claims.unknown) in
    let b : List ℕ = a ++ line_of (cut_text found.cut found.page_paper) in
    let d : List ℕ = b ++ line_of (loose_text found.loose found.page_paper) in
    on_ok_weaker c.push_reach_line.result
    (λ last. two old d (line_of (reach_text found.reach)) _ _
    (two old b (line_of (loose_text found.loose found.page_paper)) _ _
    (two old a (line_of (cut_text found.cut found.page_paper)) _ _ c.in_ok-push_unknown_line.ensures c.in_ok-push_cut_line.ensures)
    c.in_ok-push_loose_line.ensures)
    last)
    c.push_reach_line.ensures
