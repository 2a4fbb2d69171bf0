use Rattle.pictures.proofs.GuardedSheets.{guarded_sheets_are_printed}
use Rattle.pictures.proofs.laws.guarded_sheets_are_printed.Goals as goal

pub returns : goal.returns
returns c = guarded_sheets_are_printed
