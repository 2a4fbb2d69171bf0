use Rattle.open_pictures.proofs.GuardedOperators.{answers_see_no_matrices}
use Rattle.open_pictures.proofs.laws.answers_see_no_matrices.Goals as goal

pub returns : goal.returns
returns c = answers_see_no_matrices
