use Rattle.std.proofs.Common.{◌∙◌, sym}
use Rattle.papers.proofs.KnownNames.{on_ok}
use Rattle.dressing.proofs.Given.{both_boxes}
use Rattle.dressing.proofs.paper_lines.push_boxes.Goals as goal

pub returns : goal.returns
returns c =
    on_ok c.push_exact_box.result
    (both_boxes c.args.paper.now c.args.lines.now c.push_box.new.lines c.push_exact_box.new.lines c.in_ok-push_box.ensures (sym c.is_in_whole_points.ensures ∙ c.if-is_in_whole_points.false))
    c.push_exact_box.ensures
