use Rattle.dsc.proofs.Reading.{pages_bodied}
use Rattle.dsc.proofs.laws.pages_have_bodies.Goals as goal

pub returns : goal.returns
returns c = pages_bodied
