use Rattle.rules.proofs.CutFaults.{cut_faults}
use Rattle.rules.proofs.laws.cut_faults.Goals as goal

pub returns : goal.returns
returns c = cut_faults
