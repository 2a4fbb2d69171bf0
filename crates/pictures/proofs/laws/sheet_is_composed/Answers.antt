use Rattle.pictures.proofs.SheetsOfSheets.{sheet_is_composed}
use Rattle.pictures.proofs.laws.sheet_is_composed.Goals as goal

pub returns : goal.returns
returns c = sheet_is_composed
