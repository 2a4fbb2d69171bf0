use Rattle.dressing.proofs.Between.{marks_are_between}
use Rattle.dressing.proofs.laws.marks_are_between.Goals as goal

pub returns : goal.returns
returns c = marks_are_between
