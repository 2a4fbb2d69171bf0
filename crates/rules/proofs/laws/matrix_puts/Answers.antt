use Rattle.rules.proofs.Turns.{matrix_puts}
use Rattle.rules.proofs.laws.matrix_puts.Goals as goal

pub returns : goal.returns
returns c = matrix_puts
