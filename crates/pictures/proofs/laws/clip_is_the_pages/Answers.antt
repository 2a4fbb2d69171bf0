use Rattle.pictures.proofs.Lines.{clip_is_the_pages}
use Rattle.pictures.proofs.laws.clip_is_the_pages.Goals as goal

pub returns : goal.returns
returns c = clip_is_the_pages
