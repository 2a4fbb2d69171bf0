use Rattle.imposer.proofs.Held.{at_ok}
use Rattle.imposer.proofs.work.RunInputWorkWorkerTokens.prepare.Goals as goal

pub returns-clause-back : goal.returns-clause-back
returns-clause-back g c = at_ok _ _ c.in_ok-ended.was c.prepare_all-ended.ensures.back

pub returns-clause-prepared : goal.returns-clause-prepared
returns-clause-prepared g c = at_ok _ _ c.in_ok-ended.was c.prepare_all-ended.ensures.prepared
