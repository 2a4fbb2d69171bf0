use Rattle.dsc.proofs.Alone.{pages-alone}
use Rattle.dsc.proofs.laws.pages_stand_alone.Goals as goal

pub returns : goal.returns
returns c = pages-alone
