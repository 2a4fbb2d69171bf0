use Rattle.std.proofs.Common.{◌∙◌, ap, arith, false, sym, true}
use Rattle.impose_cli.proofs.TakenPages.{any_default, page_taken}
use Rattle.impose_cli.proofs.taken.papers_taken.Goals.{else-index, then-index}
use Rattle.impose_cli.proofs.taken.papers_taken.Goals as goal

pub loop-page-preserved : goal.loop-page-preserved
loop-page-preserved c =
    let l = c.loop-page-test.true in
    let own = c.index-own-page.is ∙ any_default c.args.own.now c.loop-page.page _ c.args.other.now l in
    let is = c.index.ensures ∙ any_default c.in_ok-taken.taken.items c.loop-page.page _ false (omega (arith, l, c.in_ok-taken.ensures.len)) ∙ c.in_ok-taken.ensures.each c.loop-page.page l in
    elim c.if-index.branch [
      | then-index w ↦ page_taken c.args.row.now c.args.other.now c.args.own.now c.loop-page.page c.index-own-page.result c.if-index.shown.now true c.loop-page.papers.items c.push.new.self.items l
          own (sym w.if-index.true ∙ is) (ap (λ p. p.now) w.shown-is) c.loop-page.invariant c.in_ok-push.ensures.items
      | else-index w ↦ page_taken c.args.row.now c.args.other.now c.args.own.now c.loop-page.page c.index-own-page.result c.if-index.shown.now false c.loop-page.papers.items c.push.new.self.items l
          own (sym w.if-index.false ∙ is) (ap (λ p. p.now) w.shown-is) c.loop-page.invariant c.in_ok-push.ensures.items
    ]
