use Rattle.rules.proofs.NumberForm.{number_printed}
use Rattle.rules.proofs.laws.number_is_printed.Goals as goal

pub returns : goal.returns
returns c = number_printed
