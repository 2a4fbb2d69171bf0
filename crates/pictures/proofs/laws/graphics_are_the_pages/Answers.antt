use Rattle.pictures.proofs.Lines.{graphics_are_the_pages}
use Rattle.pictures.proofs.laws.graphics_are_the_pages.Goals as goal

pub returns : goal.returns
returns c = graphics_are_the_pages
