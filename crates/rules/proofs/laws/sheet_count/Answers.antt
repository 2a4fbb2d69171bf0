use Rattle.rules.proofs.Counts.{sheet_count}
use Rattle.rules.proofs.laws.sheet_count.Goals as goal

pub returns : goal.returns
returns c = sheet_count
