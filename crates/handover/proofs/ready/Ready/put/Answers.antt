use Rattle.std.proofs.Common.{rules, sym, ap, ◌∙◌}
use Rattle.handover.specs.Queue.{Put}
use Rattle.handover.proofs.RuleKept.{puts, sees}
use Rattle.handover.proofs.Views.{may_try, stands_after, made}
use Rattle.handover.proofs.ready.Ready.put.Goals as goal

pub push_as-requires-clause-rule : goal.push_as-requires-clause-rule
push_as-requires-clause-rule g c =
    let v = c.pass.inside.token.me.0.client in
    let capacity = ap (λ t. t.key) c.pass.view_is ∙ c.requires.1 ∙ sym (ap (λ t. t.capacity) c.self.view_is) in
    let may = may_try v c.pass.inside.share c.pass.inside.room c.pass.invariant.1 (search rules) in
    (puts _ _ v _ c.pass.invariant.1.seat.held.some_share capacity may, sees _ v)

pub invariant_of-pass : goal.invariant_of-pass
invariant_of-pass g c = (
  c.push_as.ensures.queue.2 ∙ c.pass.invariant.0,
  stands_after c.pass.inside.token.me.0.client _ _ _ _ (Put c.args.sheet) c.in-Ok.ensures.rule
      (c.room_after_put-pass-inside.ensures c.args.sheet) c.pass.invariant.1,
)

pub returns-in-Ok-clause-put : goal.returns-in-Ok-clause-put
returns-in-Ok-clause-put g c =
    made _ _ c.pass.inside.token.me.0.client _ (Put c.args.sheet) _ c.in-Ok.ensures.rule c.pass.invariant.1.seat.held
    c.push_as.ensures.queue.0 c.pass.view_is
