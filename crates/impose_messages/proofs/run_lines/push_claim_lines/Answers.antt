use Rattle.std.proofs.Common.{◌++◌, List, ℕ}
use Rattle.std.proofs.lemmas.Result.{on_ok_weaker}
use Rattle.impose_messages.proofs.Pieces.{two}
use Rattle.impose_messages.specs.Said.{claim_text, copies_text, dependence_text, line_of}
use Rattle.impose_messages.proofs.run_lines.push_claim_lines.Goals as goal

pub returns : goal.returns
returns c =
    let old : List ℕ = c.args.said.now.items in
    let claims = c.args.claims.now in
    let a : List ℕ = line_of (claim_text claims.is_ended claims.pages c.args.pages) in
    let b : List ℕ = a ++ line_of (dependence_text claims.dependence c.args.pages) in
    on_ok_weaker c.push_copies_line.result
    (λ last. two old b (line_of (copies_text claims.loses_copies)) _ _
    (two old a (line_of (dependence_text claims.dependence c.args.pages)) _ _ c.in_ok-push_claim_line.ensures c.in_ok-push_dependence_line.ensures)
    last)
    c.push_copies_line.ensures
