use Rattle.pictures.proofs.Lines.{matrix_is_the_pages}
use Rattle.pictures.proofs.laws.matrix_is_the_pages.Goals as goal

pub returns : goal.returns
returns c = matrix_is_the_pages
