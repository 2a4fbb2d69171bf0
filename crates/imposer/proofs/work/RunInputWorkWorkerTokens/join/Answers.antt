use Rattle.imposer.proofs.Held.{of_both}
use Rattle.imposer.proofs.Holdings.{with_prepared, with_imposed}
use Rattle.imposer.proofs.work.RunInputWorkWorkerTokens.join.Goals as goal

pub returns-clause-prepared : goal.returns-clause-prepared
returns-clause-prepared g c = λ first count k had did.
    with_prepared _ first.tokens count k c.args.all c.args.theirs _
    (of_both _ _ _ _ c.args.all.tokens c.args.theirs.tokens _ c.requires.all.tokens c.requires.theirs.tokens c.join-seat.ensures c.join-pass.ensures)
    c.or.ensures had did

pub returns-clause-imposed : goal.returns-clause-imposed
returns-clause-imposed g c = λ first count k had did.
    with_imposed _ first.tokens count k c.args.all c.args.theirs _
    (of_both _ _ _ _ c.args.all.tokens c.args.theirs.tokens _ c.requires.all.tokens c.requires.theirs.tokens c.join-seat.ensures c.join-pass.ensures)
    c.or.ensures had did
