use Rattle.row_sheets.proofs.CardGrid.{cards_are_grid}
use Rattle.row_sheets.proofs.laws.cards_are_grid.Goals as goal

pub returns : goal.returns
returns c = cards_are_grid
