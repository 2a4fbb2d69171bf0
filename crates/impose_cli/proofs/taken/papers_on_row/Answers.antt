use Rattle.std.proofs.Common.{refl, rules}
use Rattle.impose_cli.proofs.TakenPages.{entry_taken}
use Rattle.impose_cli.proofs.taken.papers_on_row.Goals as goal

pub loop-entry-preserved : goal.loop-entry-preserved
loop-entry-preserved c =
    entry_taken c.args.row.now c.loop-entry.entry-index _ c.args.own.now _ c.loop-entry.papers.items c.push_paper.new.papers.items c.loop-entry-test.true (search rules) refl
    c.loop-entry.invariant c.in_ok-push_paper.ensures
