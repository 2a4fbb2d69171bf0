use Rattle.std.proofs.Common.{◌∙◌, arith, rules}
use Rattle.impose_cli.proofs.TakenPages.{marked}
use Rattle.impose_cli.proofs.taken.pages_taken.Goals as goal

pub loop-entry-preserved : goal.loop-entry-preserved
loop-entry-preserved c = record {
  len = c.mark_entry.ensures.len ∙ c.loop-entry.invariant.len;
  each = λ k l. marked c.args.row.now c.loop-entry.entry-index _ c.loop-entry.taken.items c.mark_entry.new.taken.items k c.loop-entry-test.true (search rules)
      (c.loop-entry.invariant.each k l) (c.mark_entry.ensures.each k (omega (arith, l, c.loop-entry.invariant.len)));
}
