use Rattle.sheet_plan.proofs.Placings.{placings}
use Rattle.sheet_plan.proofs.made.is_same_measure.Goals as goal

pub returns : goal.returns
returns c = placings c.args.one.now c.args.other.now c.eq.result c.eq.ensures
