use Rattle.std.proofs.Common.{sym, ap, ◌∙◌, refl, subst, arith}
use Rattle.rules.specs.Seats.{Learned}
use Rattle.handover.specs.Rule.{PassSight}
use Rattle.handover.specs.Passes.{puts_in}
use Rattle.handover.proofs.Rooms.{sum_of_both}
use Rattle.handover.proofs.Views.{joined, stands_joined}
use Rattle.handover.proofs.RuleKept.{merges, learns}
use Rattle.handover.proofs.ready.Ready.join.Goals as goal

pub absorb-requires-clause-rule : goal.absorb-requires-clause-rule
absorb-requires-clause-rule c =
    merges _ c.one.inside.token.me.0.client _ c.two.inside.token.me.0.client c.one.invariant.1.seat.held.some_share c.two.invariant.1.seat.held.some_share

pub learn_as-requires-clause-rule : goal.learn_as-requires-clause-rule
learn_as-requires-clause-rule c = learns _ c.absorb.new.pass.me.0.client

pub both_rooms-requires : goal.both_rooms-requires
both_rooms-requires c =
    let v = c.one.inside.token.me.0.client in
    let w = c.two.inside.token.me.0.client in
    let few = c.learn_as.ensures.rule.1.few in
    let same = ap (λ (u : PassSight). puts_in u.room) c.absorb.ensures.rule in
    let sum = sum_of_both v.room w.room in
    let one = ap puts_in c.one.invariant.1.room in
    let two = ap puts_in c.two.invariant.1.room in
    omega (arith, few, same, sum, one, two)

pub invariant_of-result : goal.invariant_of-result
invariant_of-result c =
    let key = ap (λ t. t.key) c.two.view_is ∙ c.requires.two.1 ∙ sym (ap (λ t. t.key) c.one.view_is ∙ c.requires.one.1) in
    let l = c.learn_as.ensures in
    let same = l.queue.1 ∙ c.absorb.ensures.rule in
    (l.queue.0.2 ∙ c.absorb.ensures.queue.2 ∙ c.one.invariant.0, stands_joined c.one.inside.token.me.0.client c.two.inside.token.me.0.client _ _ _ _ _ _ _ same (subst (λ (u : PassSight). Learned u.seat) (sym l.queue.1) l.rule.1.seat) key refl c.both_rooms.ensures c.one.invariant.1 c.two.invariant.1)

pub returns : goal.returns
returns c =
    let key = ap (λ t. t.key) c.two.view_is ∙ c.requires.two.1 ∙ sym (ap (λ t. t.key) c.one.view_is ∙ c.requires.one.1) in
    let l = c.learn_as.ensures in
    joined _ _ _ c.one.inside.token.me.0.client c.two.inside.token.me.0.client _ _ _ c.one.view_is c.two.view_is (l.queue.1 ∙ c.absorb.ensures.rule) (subst (λ (u : PassSight). Learned u.seat) (sym l.queue.1) l.rule.1.seat) (l.queue.0.0 ∙ c.absorb.ensures.queue.0) key c.one.invariant.1.seat.held c.two.invariant.1.seat.held
