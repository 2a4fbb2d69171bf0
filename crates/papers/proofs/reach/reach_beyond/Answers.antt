use Rattle.std.proofs.Common.{List, Option, ap, ◌∙◌}
use Rattle.papers.specs.Reach.{placing, reach_of}
use Rattle.papers.specs.declared.boxes.Edges.{Edges}
use Rattle.papers.proofs.PageBoxes.{each_box}
use Rattle.papers.proofs.reach.reach_beyond.Goals as goal

pub returns : goal.returns
returns c =
    let pages = c.args.pages.now in
    let text = c.text-text in
    let same = each_box pages.document.now text.result.now c.split_at.result.0.now c.header_len.result _
    text.ensures.text text.ensures.units c.header_len.ensures.value c.split_at.ensures.front c.box_of.ensures in
    c.reach_with.ensures
    ∙ ap (λ (boxes : List (Option Edges)). reach_of (placing pages.taken.now pages.own.now boxes pages.cut_apart) pages.papers.now) same
