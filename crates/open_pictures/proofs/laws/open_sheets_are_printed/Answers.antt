use Rattle.open_pictures.proofs.Sheets.{open_sheets_are_printed}
use Rattle.open_pictures.proofs.laws.open_sheets_are_printed.Goals as goal

pub returns : goal.returns
returns c = open_sheets_are_printed
