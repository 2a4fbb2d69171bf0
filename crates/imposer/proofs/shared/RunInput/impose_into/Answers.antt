use Rattle.imposer.proofs.Held.{imposes_read}
use Rattle.imposer.proofs.Texts.{have_pushed}
use Rattle.imposer.proofs.shared.RunInput.impose_into.Goals as goal

pub returns-in_ok-push-clause-imposes : goal.returns-in_ok-push-clause-imposes
returns-in_ok-push-clause-imposes g c = imposes_read _ _ _ c.requires.tokens c.in_ok-imposed.ensures.reads

pub returns-in_ok-push-clause-texts : goal.returns-in_ok-push-clause-texts
returns-in_ok-push-clause-texts g c =
    let input = c.args.self.now in
    have_pushed g.T.SheetTexts.text input.shared.now.objects.job.now input.ruled.now.job.now c.args.batch.now c.push.new.self c.args.sheet c.impose_taken.new.text
    input.same_job input.ruled.now.texts c.in_ok-push.ensures.pushed
    (c.in_ok-imposed.ensures.text c.if-imposed.true) c.requires.texts

pub returns-else-imposed-clause-imposes : goal.returns-else-imposed-clause-imposes
returns-else-imposed-clause-imposes g c = imposes_read _ _ _ c.requires.tokens c.in_ok-imposed.ensures.reads
