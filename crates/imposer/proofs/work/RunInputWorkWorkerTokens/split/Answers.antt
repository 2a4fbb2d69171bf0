use Rattle.imposer.proofs.Holdings.{given_away}
use Rattle.imposer.proofs.work.RunInputWorkWorkerTokens.split.Goals as goal

pub returns-clause-gathered : goal.returns-clause-gathered
returns-clause-gathered g c = λ first count had.
    given_away _ first.tokens count 0 _ _ _ c.args.held.now _ _ c.split-seat.ensures.kept c.split-pass.ensures.kept had
