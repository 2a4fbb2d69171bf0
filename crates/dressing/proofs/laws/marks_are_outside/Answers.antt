use Rattle.dressing.proofs.Outside.{marks_are_outside}
use Rattle.dressing.proofs.laws.marks_are_outside.Goals as goal

pub returns : goal.returns
returns c = marks_are_outside
