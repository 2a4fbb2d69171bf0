use Rattle.std.proofs.Common.{refl}
use Rattle.handover.proofs.RuleKept.{begins}
use Rattle.handover.proofs.Views.{view_opens}
use Rattle.handover.proofs.ready.Ready.by_right.Goals as goal

pub ruled-requires-clause-rule : goal.ruled-requires-clause-rule
ruled-requires-clause-rule c = begins

pub returns-clause-pass : goal.returns-clause-pass
returns-clause-pass c = view_opens _ _ _ _ _ _ (c.open.ensures.0.0) c.open.ensures.1 refl
