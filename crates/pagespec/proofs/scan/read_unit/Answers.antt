use Rattle.pagespec.proofs.MeasureStuck.{unit_stuck}
use Rattle.pagespec.proofs.scan.read_unit.Goals as goal

pub returns-clause-stuck : goal.returns-clause-stuck
returns-clause-stuck c = unit_stuck c.args.bytes.now _ _ _ c.split_unit-unit.ensures.rest c.past_letter.ensures c.min-left.ensures

pub returns-clause-unit : goal.returns-clause-unit
returns-clause-unit c = c.split_unit-unit.ensures.unit

pub returns-clause-rest : goal.returns-clause-rest
returns-clause-rest c = c.split_unit-unit.ensures.rest
