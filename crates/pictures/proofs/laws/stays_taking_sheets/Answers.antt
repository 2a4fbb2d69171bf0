use Rattle.pictures.proofs.Taking.{stays_taking_sheets}
use Rattle.pictures.proofs.laws.stays_taking_sheets.Goals as goal

pub returns : goal.returns
returns c = stays_taking_sheets
