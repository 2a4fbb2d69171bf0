use Rattle.dressing.proofs.Outside.{marks_are_in_margin}
use Rattle.dressing.proofs.laws.marks_are_in_margin.Goals as goal

pub returns : goal.returns
returns c = marks_are_in_margin
