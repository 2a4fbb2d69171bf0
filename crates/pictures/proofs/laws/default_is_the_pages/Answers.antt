use Rattle.pictures.proofs.Lines.{default_is_the_pages}
use Rattle.pictures.proofs.laws.default_is_the_pages.Goals as goal

pub returns : goal.returns
returns c = default_is_the_pages
