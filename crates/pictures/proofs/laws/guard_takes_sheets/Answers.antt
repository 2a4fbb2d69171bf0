use Rattle.pictures.proofs.Taking.{guard_takes_sheets}
use Rattle.pictures.proofs.laws.guard_takes_sheets.Goals as goal

pub returns : goal.returns
returns c = guard_takes_sheets
