use Rattle.std.proofs.Common.{sym, subst}
use Rattle.sheet_writer.specs.Writing.{HaveTexts}
use Rattle.imposer.specs.Promises.{OnlyImposes}
use Rattle.imposer.proofs.Held.{imposes_both}
use Rattle.imposer.proofs.Texts.{have_none}
use Rattle.imposer.proofs.shared.RunInput.impose_batch.Goals as goal
use Rattle.imposer.proofs.shared.RunInput.impose_batch.Goals.{else-loop-test, then-loop-test+in_ok-impose_more+then-not-branch}

pub impose_into-requires-clause-texts : goal.impose_into-requires-clause-texts
impose_into-requires-clause-texts g c =
    have_none g.T.SheetTexts.text c.clear.new.self c.clear.ensures

pub loop-preserved : goal.loop-preserved
loop-preserved g c = record {
  imposes = imposes_both _ _ _ _ c.loop.invariant.imposes c.in_ok-impose_more.ensures.imposes;
  texts = c.in_ok-impose_more.ensures.texts;
}

pub returns-clause-imposes : goal.returns-clause-imposes
returns-clause-imposes g c =
    let run = c.args.self.now.shared.now in
    elim c.loop-test.branch [
      | else-loop-test w ↦ subst (OnlyImposes run c.args.tokens.now) (sym w.tokens-is) c.loop.invariant.imposes
      | then-loop-test+in_ok-impose_more+then-not-branch w ↦
          subst (OnlyImposes run c.args.tokens.now) (sym w.tokens-is) (imposes_both _ _ _ _ c.loop.invariant.imposes w.in_ok-impose_more.ensures.imposes)
    ]

pub returns-clause-texts : goal.returns-clause-texts
returns-clause-texts g c = elim c.loop-test.branch [
  | else-loop-test w ↦ subst (HaveTexts g.T.SheetTexts.text) (sym w.batch-is) c.loop.invariant.texts
  | then-loop-test+in_ok-impose_more+then-not-branch w ↦ subst (HaveTexts g.T.SheetTexts.text) (sym w.batch-is) w.in_ok-impose_more.ensures.texts
]
