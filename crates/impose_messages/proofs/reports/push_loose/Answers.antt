use Rattle.std.specs.Prelude.{codes}
use Rattle.std.proofs.lemmas.Result.{on_ok_weaker}
use Rattle.impose_messages.proofs.Pieces.{four}
use Rattle.impose_messages.specs.Said.{paper_size_text}
use Rattle.impose_messages.proofs.reports.push_loose.Goals as goal

pub returns : goal.returns
returns c =
    on_ok_weaker c.push_size-2.result
    (λ last.
    four c.args.said.now.items (codes "--paper is larger than all pages: up to ") (paper_size_text c.args.cover.now) (codes " on ") (paper_size_text c.args.named.now) _ _ _ _
    c.in_ok-extend_from_slice.ensures.items c.in_ok-push_size.ensures c.in_ok-extend_from_slice-2.ensures.items last)
    c.push_size-2.ensures
