use Rattle.std.proofs.Common.{◌∙◌, arith, false, sym, true}
use Rattle.impose_cli.proofs.TakenPages.{any_default, count_more, page_counted}
use Rattle.impose_cli.proofs.taken.taken_count.Goals.{else-index, then-index}
use Rattle.impose_cli.proofs.taken.taken_count.Goals as goal

pub loop-page-preserved : goal.loop-page-preserved
loop-page-preserved c =
    let l = c.loop-page-test.true in
    let is = c.index.ensures ∙ any_default c.in_ok-taken.taken.items c.loop-page.page _ false (omega (arith, l, c.in_ok-taken.ensures.len)) ∙ c.in_ok-taken.ensures.each c.loop-page.page l in
    elim c.if-index.branch [
      | then-index w ↦ record {
        few = count_more true c.loop-page.count c.loop-page.page _ w.count-is c.loop-page.invariant.few;
        sum = page_counted c.args.row.now c.loop-page.page true c.loop-page.count _ (sym w.if-index.true ∙ is) c.loop-page.invariant.sum w.count-is;
      }
      | else-index w ↦ record {
        few = count_more false c.loop-page.count c.loop-page.page _ (omega (arith, w.count-is)) c.loop-page.invariant.few;
        sum = page_counted c.args.row.now c.loop-page.page false c.loop-page.count _ (sym w.if-index.false ∙ is) c.loop-page.invariant.sum (omega (arith, w.count-is));
      }
    ]
