use Rattle.std.specs.Prelude.{option_map}
use Rattle.dsc.specs.Fields.{fields_in}
use Rattle.papers.specs.Reach.{Placing, boxes_or, placing}
use Rattle.papers.proofs.ReachingPages.{one_more_page}
use Rattle.papers.proofs.reach.reach_with.Goals as goal

pub loop-page-preserved : goal.loop-page-preserved
loop-page-preserved c =
    let them = c.args.pages.now in
    let pages : Placing = placing them.taken.now them.own.now (boxes_or (option_map (λ v. fields_in v.now) c.args.other) them.document.now) them.cut_apart in
    one_more_page pages them.papers.now c.loop-page.page c.index-papers-page.result c.extent_at.result c.loop-page.reach c.with_if_beyond-reach.result
    c.index-papers-page.is c.loop-page-test.true c.loop-page.invariant c.extent_at.ensures c.with_if_beyond-reach.ensures
