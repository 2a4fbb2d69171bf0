use Rattle.pictures.proofs.OwnShowpage.{own_sheets_are_printed}
use Rattle.pictures.proofs.laws.own_sheets_are_printed.Goals as goal

pub returns : goal.returns
returns c = own_sheets_are_printed
