use Rattle.pictures.proofs.SheetsOfSheets.{sheets_of_sheets_are_printed}
use Rattle.pictures.proofs.laws.sheets_of_sheets_are_printed.Goals as goal

pub returns : goal.returns
returns c = sheets_of_sheets_are_printed
