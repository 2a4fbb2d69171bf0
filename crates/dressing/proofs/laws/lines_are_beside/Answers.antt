use Rattle.dressing.proofs.Beside.{lines_are_beside}
use Rattle.dressing.proofs.laws.lines_are_beside.Goals as goal

pub returns : goal.returns
returns c = lines_are_beside
