use Rattle.layouts.proofs.Middle.{grid_in_middle}
use Rattle.layouts.proofs.laws.pages_are_in_middle.Goals as goal

pub returns : goal.returns
returns c = grid_in_middle
