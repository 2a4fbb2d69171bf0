use Rattle.pictures.proofs.Silenced.{silenced_sheets_are_printed}
use Rattle.pictures.proofs.laws.silenced_sheets_are_printed.Goals as goal

pub returns : goal.returns
returns c = silenced_sheets_are_printed
