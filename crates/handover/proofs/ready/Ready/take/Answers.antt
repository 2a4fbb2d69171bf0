use Rattle.std.proofs.Common.{◌∙◌}
use Rattle.handover.proofs.RuleKept.{takes, sees}
use Rattle.handover.proofs.Views.{take_stands, take_made}
use Rattle.handover.proofs.ready.Ready.take.Goals as goal

pub pop_as-requires-clause-rule : goal.pop_as-requires-clause-rule
pop_as-requires-clause-rule g c = (takes _ c.pass.inside.token.me.0.client c.pass.invariant.1.seat.held.some_share, sees _ c.pass.inside.token.me.0.client)

pub invariant_of-pass : goal.invariant_of-pass
invariant_of-pass g c = (c.pop_as.ensures.queue.2 ∙ c.pass.invariant.0, take_stands _ _ _ _ _ _ c.pop_as.ensures.rule c.pass.invariant.1)

pub returns-clause-taken : goal.returns-clause-taken
returns-clause-taken g c = take_made _ _ _ _ _ _ _ c.pop_as.ensures.rule c.pass.invariant.1.seat.held c.pop_as.ensures.queue.0 c.pass.view_is
