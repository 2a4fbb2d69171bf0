use Rattle.std.proofs.Common.{◌++◌, ◌∙◌, ◌+◌, ℕ, ap}
use Rattle.std.specs.Prelude.{codes, decimal}
use Rattle.std.proofs.lemmas.Result.{on_ok_weaker}
use Rattle.impose_messages.proofs.Pieces.{six}
use Rattle.impose_messages.specs.Said.{corners_text, paper_size_text}
use Rattle.impose_messages.proofs.reports.push_lying.Goals as goal

pub returns : goal.returns
returns c =
    on_ok_weaker c.push_size.result
    (λ last.
    six c.args.said.now.items (codes "page ") (decimal (c.args.lying.now.page + 1)) c.args.how.now (corners_text c.args.lying.now.edges) (codes " on ")
    (paper_size_text c.args.lying.now.sheet) _ _ _ _ _ _
    c.in_ok-extend_from_slice.ensures.items (c.in_ok-push_number.ensures ∙ ap (λ (n : ℕ). c.extend_from_slice.new.self.items ++ decimal (n + 1)) c.from.ensures)
    c.in_ok-extend_from_slice-2.ensures.items c.in_ok-push_corners.ensures c.in_ok-extend_from_slice-3.ensures.items last)
    c.push_size.ensures
