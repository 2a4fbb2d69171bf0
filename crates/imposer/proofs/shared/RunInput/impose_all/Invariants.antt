use Rattle.crossbeam_channel.specs.Claims.{IsSeatAt}
use Rattle.crossbeam_channel.specs.Ends.{sends_on}
use Rattle.imposer.specs.Promises.{OnlyImposes}
use Rattle.imposer.proofs.shared.RunInput.impose_all.Given as goal

abbrev pub invariant-loop : goal.invariant-loop
invariant-loop g l =
    (goal.iterator-loop g).can_next l.iterator' × (goal.iterator-loop g).is_finite l.iterator'
    × IsSeatAt (sends_on l.self.channel.now.sender) l.ticket
    × OnlyImposes l.self.shared.now l.fn.tokens l.tokens
