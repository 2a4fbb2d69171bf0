use Rattle.layouts.proofs.Narrow.{nothing_is_left}
use Rattle.layouts.proofs.laws.nothing_is_left.Goals as goal

pub returns : goal.returns
returns c = nothing_is_left
