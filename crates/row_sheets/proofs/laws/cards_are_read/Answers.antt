use Rattle.row_sheets.proofs.Stacking.{cards_are_read}
use Rattle.row_sheets.proofs.laws.cards_are_read.Goals as goal

pub returns : goal.returns
returns c = cards_are_read
