use Rattle.std.proofs.Common.{◌∙◌, ap, sym, Some}
use Rattle.papers.proofs.CutPages.{none_cut, one_cut}
use Rattle.papers.proofs.cuts.cut_by.Goals as goal
use Rattle.papers.proofs.cuts.cut_by.Goals.{then-is_cut, else-is_cut}

pub loop-page-preserved : goal.loop-page-preserved
loop-page-preserved c = elim c.if-is_cut.branch [
  | then-is_cut w ↦ one_cut c.args.paper.now c.args.own.now c.loop-page.page c.index-own-page.result c.loop-page.cut c.if-is_cut.cut c.index-own-page.is
      c.loop-page-test.true c.loop-page.invariant (sym c.is_cut.ensures ∙ w.if-is_cut.true) (w.cut-is ∙ ap Some w.with_cut_page.ensures)
  | else-is_cut w ↦ none_cut c.args.paper.now c.args.own.now c.loop-page.page c.index-own-page.result c.loop-page.cut c.if-is_cut.cut c.index-own-page.is
      c.loop-page-test.true c.loop-page.invariant (sym c.is_cut.ensures ∙ w.if-is_cut.false) w.cut-is
]
