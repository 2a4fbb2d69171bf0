use Rattle.std.proofs.Common.{◌∙◌}
use Rattle.imposer.proofs.Held.{at_ok, nothing_put, unused_closes, unused_done, unused_put}
use Rattle.imposer.proofs.Holdings.{of_none}
use Rattle.imposer.proofs.work.RunInputImposingWorkerTokensTicket.impose.Goals as goal

pub returns-clause-back : goal.returns-clause-back
returns-clause-back g c = record {
  tokens = (at_ok _ _ c.in_ok-ended.was c.impose_all-ended.ensures.imposes).tokens;
  unshelved = of_none _ _ c.requires.held.unshelved;
}

pub returns-clause-imposed : goal.returns-clause-imposed
returns-clause-imposed g c =
    let unused = c.requires.held.unused in
    let imposes = at_ok _ _ c.in_ok-ended.was c.impose_all-ended.ensures.imposes in
    record {
      shelved = c.requires.held.unshelved;
      work = λ h. imposes.work h ∙ unused_done h _ unused;
      order = nothing_put _ (λ s. imposes.puts s ∙ unused_put s _ unused) (imposes.closes (unused_closes _ unused));
    }
