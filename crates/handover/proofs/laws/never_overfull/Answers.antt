use Rattle.handover.proofs.Histories.{never_overfull}
use Rattle.handover.proofs.laws.never_overfull.Goals as goal

pub returns : goal.returns
returns c = never_overfull
