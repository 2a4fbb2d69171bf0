use Rattle.dressing.proofs.OnFold.{fold_marks_are_on_fold}
use Rattle.dressing.proofs.laws.fold_marks_are_on_fold.Goals as goal

pub returns : goal.returns
returns c = fold_marks_are_on_fold
