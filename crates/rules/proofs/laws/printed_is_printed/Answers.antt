use Rattle.rules.proofs.OnePrinted.{printed_law}
use Rattle.rules.proofs.laws.printed_is_printed.Goals as goal

pub returns : goal.returns
returns c = printed_law
