use Rattle.handover.proofs.Histories.{first_put_is_first_taken}
use Rattle.handover.proofs.laws.first_put_is_first_taken.Goals as goal

pub returns : goal.returns
returns c = first_put_is_first_taken
