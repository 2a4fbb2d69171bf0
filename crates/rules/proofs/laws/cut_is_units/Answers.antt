use Rattle.rules.proofs.CutUnits.{cut_is_units}
use Rattle.rules.proofs.laws.cut_is_units.Goals as goal

pub returns : goal.returns
returns c = cut_is_units
