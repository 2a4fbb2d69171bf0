use Rattle.sheet_writer.specs.Writing.{HaveTexts}
use Rattle.imposer.specs.Promises.{OnlyImposes}
use Rattle.imposer.proofs.shared.RunInput.impose_batch.Given as goal

abbrev pub invariant-loop : goal.invariant-loop
invariant-loop g l = record {
  imposes : OnlyImposes l.self.shared.now l.fn.tokens l.tokens;
  texts : HaveTexts g.T.SheetTexts.text l.batch;
}
