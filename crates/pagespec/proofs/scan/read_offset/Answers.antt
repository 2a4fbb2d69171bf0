use Rattle.pagespec.proofs.Scans.{offset_from}
use Rattle.pagespec.proofs.MeasureStuck.{first_stuck, comma_stuck, second_stuck, bracket_stuck}
use Rattle.pagespec.proofs.scan.read_offset.Goals as goal

pub returns-in-Err : goal.returns-in-Err
returns-in-Err c = first_stuck c.args.bytes.now _ c.in-Err.ensures

pub returns-in-None : goal.returns-in-None
returns-in-None c = comma_stuck c.args.bytes.now _ _ _ c.in-Ok.ensures.0.1 c.in-None.ensures c.in-Ok.ensures.1

pub returns-in-Err-read_measure : goal.returns-in-Err-read_measure
returns-in-Err-read_measure c = second_stuck c.args.bytes.now _ _ _ _ c.in-Ok.ensures.0.1 c.in-Some.ensures c.in-Err-read_measure.ensures

pub returns-in-Some-read_byte : goal.returns-in-Some-read_byte
returns-in-Some-read_byte c = (
  _,
  offset_from c.args.bytes.now _ _ _ _ _ _ c.in-Ok.ensures.0.1 c.in-Some.ensures c.in-Ok-read_measure.ensures.0.1 c.in-Some-read_byte.ensures,
  c.offset_of.ensures _ _ c.in-Ok.ensures.0.2 c.in-Ok-read_measure.ensures.0.2,
)

pub returns-in-None-read_byte : goal.returns-in-None-read_byte
returns-in-None-read_byte c = bracket_stuck c.args.bytes.now _ _ _ _ _ _ c.in-Ok.ensures.0.1 c.in-Some.ensures c.in-Ok-read_measure.ensures.0.1 c.in-None-read_byte.ensures c.in-Ok-read_measure.ensures.1
