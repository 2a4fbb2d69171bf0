use Rattle.pictures.proofs.SheetsOfSheets.{sheet_is_placed}
use Rattle.pictures.proofs.laws.sheet_is_placed.Goals as goal

pub returns : goal.returns
returns c = sheet_is_placed
