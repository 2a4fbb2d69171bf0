use Rattle.dressing.proofs.Given.{no_marks_add_nothing}
use Rattle.dressing.proofs.laws.no_marks_add_nothing.Goals as goal

pub returns : goal.returns
returns c = no_marks_add_nothing
