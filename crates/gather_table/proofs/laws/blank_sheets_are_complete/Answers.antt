use Rattle.gather_table.proofs.BlankSheets.{blank_sheets}
use Rattle.gather_table.proofs.laws.blank_sheets_are_complete.Goals as goal

pub returns : goal.returns
returns c = blank_sheets
