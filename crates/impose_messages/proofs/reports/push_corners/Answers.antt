use Rattle.std.specs.Prelude.{codes}
use Rattle.std.proofs.lemmas.Result.{on_ok_weaker}
use Rattle.impose_messages.proofs.Pieces.{four}
use Rattle.impose_messages.specs.Said.{sides_text}
use Rattle.impose_messages.proofs.reports.push_corners.Goals as goal

pub returns : goal.returns
returns c =
    on_ok_weaker c.push_sides-2.result
    (four c.args.said.now.items (codes "from ") (sides_text c.args.edges.now.left c.args.edges.now.bottom) (codes " to ") (sides_text c.args.edges.now.right c.args.edges.now.top) _ _ _ _
    c.in_ok-extend_from_slice.ensures.items c.in_ok-push_sides.ensures c.in_ok-extend_from_slice-2.ensures.items)
    c.push_sides-2.ensures
