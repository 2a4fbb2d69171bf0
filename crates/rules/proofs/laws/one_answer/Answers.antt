use Rattle.rules.proofs.OneFault.{one_answer}
use Rattle.rules.proofs.laws.one_answer.Goals as goal

pub returns : goal.returns
returns c = one_answer
