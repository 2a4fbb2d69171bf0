use Rattle.std.specs.Prelude.{codes}
use Rattle.std.proofs.lemmas.Result.{on_ok_weaker}
use Rattle.impose_messages.proofs.Pieces.{six}
use Rattle.impose_messages.specs.Said.{cut_pages_text, cut_size_text, paper_size_text}
use Rattle.impose_messages.proofs.reports.push_cut.Goals as goal

pub returns : goal.returns
returns c =
    on_ok_weaker c.push_size.result
    (six c.args.said.now.items (codes "--paper cuts ") (cut_pages_text c.args.cut.now) (codes ": ") (cut_size_text c.args.cut.now) (codes " on ") (paper_size_text c.args.named.now) _ _ _ _ _ _
    c.in_ok-extend_from_slice.ensures.items c.in_ok-push_cut_pages.ensures c.in_ok-extend_from_slice-2.ensures.items c.in_ok-push_cut_size.ensures c.in_ok-extend_from_slice-3.ensures.items)
    c.push_size.ensures
