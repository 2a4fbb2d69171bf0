use Rattle.std.proofs.Common.{arith, ap}
use Rattle.handover.specs.Passes.{puts_in}
use Rattle.handover.proofs.RuleKept.{forks}
use Rattle.handover.proofs.ready.Ready.cut.Goals as goal

pub another-token-requires-clause-rule : goal.another-token-requires-clause-rule
another-token-requires-clause-rule g c =
    let share = ap (λ t. t.share) c.pass.view_is in
    let room = ap (λ t. puts_in t.room) c.pass.view_is in
    let all = c.requires.share in
    let few = c.requires.room in
    let number = c.requires.number in
    forks _ c.pass.inside.token.me.0.client _ _ (omega arith) (omega arith) (omega arith)
