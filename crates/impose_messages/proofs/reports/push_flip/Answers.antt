use Rattle.std.proofs.Common.{◌++◌, ◌∙◌, List, ℕ, ap}
use Rattle.std.specs.Prelude.{codes}
use Rattle.std.proofs.lemmas.Result.{on_ok_weaker}
use Rattle.preview.specs.Listing.{edge_name}
use Rattle.impose_messages.proofs.Pieces.{if_ok, three}
use Rattle.impose_messages.proofs.reports.push_flip.Goals as goal

pub returns : goal.returns
returns c =
    on_ok_weaker c.extend_from_slice-3.result
    (λ last.
    three c.args.said.now.items (codes ", flip on the ") (edge_name c.args.flip) (codes " edge; ") _ _ _ c.in_ok-extend_from_slice.ensures.items
    (c.in_ok-extend_from_slice-2.ensures.items ∙ ap (λ (x : List ℕ). c.extend_from_slice.new.self.items ++ x) c.edge_name.ensures) last)
    (if_ok c.extend_from_slice-3.result _ _ _ c.extend_from_slice-3.ensures.items)
