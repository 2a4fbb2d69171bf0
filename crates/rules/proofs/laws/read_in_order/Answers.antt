use Rattle.rules.proofs.Folded.{read_in_order}
use Rattle.rules.proofs.laws.read_in_order.Goals as goal

pub returns : goal.returns
returns c = read_in_order
