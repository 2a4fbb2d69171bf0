use Rattle.std.specs.Prelude.{codes, decimal}
use Rattle.std.proofs.lemmas.Result.{on_ok_weaker}
use Rattle.impose_messages.proofs.Pieces.{five}
use Rattle.impose_messages.proofs.reports.push_some_pages.Goals as goal

pub returns : goal.returns
returns c =
    on_ok_weaker c.push_number-3.result
    (five c.args.said.now.items (decimal c.args.pages) (codes " pages from ") (decimal c.args.first) (codes " to ") (decimal c.args.last) _ _ _ _ _
    c.in_ok-push_number.ensures c.in_ok-extend_from_slice.ensures.items c.in_ok-push_number-2.ensures c.in_ok-extend_from_slice-2.ensures.items)
    c.push_number-3.ensures
